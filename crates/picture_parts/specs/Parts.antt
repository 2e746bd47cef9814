-- Which part of a run is drawn, and how large it is.
use Rattle.std.specs.Prelude.{◌≡◌, ℕ, ◌+◌, ◌-◌, ◌<◌, ◌≤◌, Bool, true, false, not, ◌==◌, ◌&&◌, leb, if◌then◌else◌, Option, Some, None, Result, Ok, Err, List, count_by, fold, length, slice_get, unwrap_or}
use Rattle.std.specs.Global.{Vec}
use Rattle.std.specs.List.{slice_range}
use Rattle.protocol.specs.declared.events.JournalEntry.{JournalEntry}
use Rattle.protocol.specs.declared.events.Event.{Event}
use Rattle.protocol.specs.declared.names.ProcessId.{ProcessId}
use Rattle.protocol.specs.declared.names.Txn.{Txn}
use Rattle.protocol.specs.declared.trees.TreeProcess.{TreeProcess}
use Rattle.picture_parts.specs.declared.belonging.Choice.TheVariants.{Between, OfTxn}
use Rattle.picture_parts.specs.declared.belonging.Belonging.{Belonging}
use Rattle.picture_parts.specs.declared.fault.PartFault.{PartFault}
use Rattle.picture_parts.specs.declared.fault.PartFault.TheVariants as faults
use Rattle.picture_parts.specs.declared.part.PicturePart.{PicturePart}
use Rattle.picture_parts.specs.declared.part.PicturePart.TheVariants.{Case, Events}
use Rattle.picture_parts.specs.declared.part.Range.{Range}
use Rattle.picture_parts.specs.Belonging.{marks_of}
use Rattle.picture_parts.specs.Captions.{Surrounds}
use Rattle.picture_parts.specs.Cut.{drawn_from}
use Rattle.picture_run.specs.Pictures.{IsPicture}

-- the transaction of this name whose root is this process
abbrev pub at_root : ProcessId → Txn → Txn
at_root root t = record { root = root; presumption = t.presumption; boot = t.boot; sequence = t.sequence }

-- how many of the steps from a place on, up to another, are drawn
abbrev pub shown_within : List Belonging → ℕ → ℕ → ℕ
shown_within ms a b = if leb a b && leb b (length ms) then count_by (λ m. m.shown) (slice_range ms a b) else 0

-- a step is drawn
abbrev pub is_there : List Belonging → Bool
is_there ms = not (count_by (λ m. m.shown) ms == 0)

-- how many steps the events made up to one, and how many of these events made one that is drawn
pub record Ruled : Type 0 where
  pub from : ℕ
  pub events : ℕ

-- with one more event, after which N steps are made
abbrev pub with_event : List Belonging → Ruled → ℕ → Ruled
with_event ms r n = record {
  from = n;
  events = if shown_within ms r.from n == 0 then r.events else r.events + 1;
}

abbrev pub ruled_by : List Belonging → List ℕ → Ruled
ruled_by ms counts = fold (with_event ms) (record { from = 0; events = 0 }) counts

-- if these are the numbers of steps that are made after each event, how many events made a step that is drawn
unfoldable pub events_shown : List Belonging → List ℕ → ℕ
events_shown ms counts = (ruled_by ms counts).events

-- how many steps are made after N events, if the first number of steps was made before them
abbrev pub count_at : ℕ → List ℕ → ℕ → ℕ
count_at start counts n = if n == 0 then start else unwrap_or (slice_get counts (n - 1)) 0

-- the steps of a transaction, and those of some events, marked
abbrev pub marks_of_case : ProcessId → Txn → List JournalEntry → List Belonging
marks_of_case root t es = marks_of (OfTxn (at_root root t)) es

abbrev pub marks_of_events : ℕ → List ℕ → Range → List JournalEntry → List Belonging
marks_of_events start counts r es = marks_of
    (Between (count_at start counts (r.first - 1)) (count_at start counts r.last)) es

-- how many events a part has
abbrev pub part_size : PicturePart → ProcessId → List JournalEntry → List ℕ → ℕ
part_size (Case t) root es counts = events_shown (marks_of_case root t es) counts
part_size (Events r) root es counts = (r.last + 1) - r.first

-- the run has the part: a step of the transaction, or the last of the events
abbrev pub HasPart : PicturePart → ProcessId → List JournalEntry → List ℕ → Type 0
HasPart (Case t) root es counts = is_there (marks_of_case root t es) ≡ true
HasPart (Events r) root es counts = r.last ≤ length counts

-- the steps of a part, as they are drawn
abbrev pub part_of : PicturePart → ProcessId → ℕ → List JournalEntry → List ℕ → List JournalEntry
part_of (Case t) root start es counts = drawn_from (Some (at_root root t)) (marks_of_case root t es)
part_of (Events r) root start es counts = drawn_from None (marks_of_events start counts r es)

-- The text has a picture of these steps of a tree, of a run of some events. What is before and after it, as
-- its caption, is not said.
pub record HasPicture (tree : List TreeProcess) (entries : List JournalEntry) (text : List ℕ) : Type 0 where
  -- how many events are drawn, and which of them was refused, if one was
  pub events : ℕ
  pub refused : Option Event
  pub inner : List ℕ
  pub picture : IsPicture tree events entries refused inner
  pub captioned : Surrounds inner text

-- the text is the picture of a part of a run of a tree that has this root: it made the first number of steps
-- before its events, these steps in all, and the numbers of steps after each event
pub record IsDrawn (part : PicturePart) (tree : List TreeProcess) (root : ProcessId) (start : ℕ)
    (es : List JournalEntry)
    (counts : List ℕ) (text : List ℕ) : Type 0 where
  pub has : HasPart part root es counts
  pub small : part_size part root es counts ≤ 2000
  pub picture : HasPicture tree (part_of part root start es counts) text

-- why it is not drawn is so
abbrev pub IsFault : PicturePart → ProcessId → List JournalEntry → List ℕ → PartFault → Type 0
IsFault part root es counts (faults.Events n) = (n ≡ part_size part root es counts) × (2000 < n)
IsFault (Case t) root es counts faults.NoCase = is_there (marks_of_case root t es) ≡ false
IsFault (Events r) root es counts (faults.Beyond n) = (n ≡ length counts) × (n < r.last)
IsFault part root es counts fault = ⊥

-- the picture, or why there is none
abbrev pub Answers : PicturePart → List TreeProcess → ProcessId → ℕ → List JournalEntry → List ℕ
    → Result (Vec ℕ) PartFault → Type 0
Answers part tree root start es counts (Ok text) = IsDrawn part tree root start es counts text.items
Answers part tree root start es counts (Err fault) = IsFault part root es counts fault
