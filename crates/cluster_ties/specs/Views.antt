-- What seats know.
use Rattle.std.specs.Prelude.{◌≡◌, ◌<◌, ⊤, ℕ, suc, eqb, if◌then◌else◌, true, false, Option, Some, None, List, [], ◌∷◌, ◌++◌, length, map, slice_get}
use Rattle.atomic_table.specs.Seated.{TableId}
use Rattle.protocol.specs.declared.names.ProcessId.{ProcessId}
use Rattle.protocol.specs.declared.messages.Envelope.{Envelope}
use Rattle.protocol.specs.declared.events.JournalEntry.{JournalEntry}
use Rattle.protocol.specs.World.{entries_of}
use Rattle.tree_state.specs.Cuts.{net_of}
use Rattle.cluster_ties.specs.declared.views.JournalView.{JournalView}
use Rattle.cluster_ties.specs.declared.views.ProcessView.{ProcessView}
use Rattle.cluster_ties.specs.declared.views.PassView.{PassView}
use Rattle.cluster_ties.specs.declared.views.View.{View}

-- the name of no table
abbrev pub no_table : TableId
no_table = record { words = 0; slots = 0; views_name = 0; atom = 0; block = 0; offset = 0; slot_names = [] }

-- the entries, without their callers
abbrev pub entries_in : List (ℕ × JournalEntry) → List JournalEntry
entries_in ls = map (λ l. l.1) ls

-- the entries of the process with this name, if there is one
abbrev pub own_of : Option ProcessId → List JournalEntry → List JournalEntry
own_of None xs = []
own_of (Some q) xs = entries_of q xs

-- the entries under this caller's number, each with its place, the first of them all having this place
abbrev pub pairs_by : ℕ → ℕ → List (ℕ × JournalEntry) → List (ℕ × JournalEntry)
pairs_by c n [] = []
pairs_by c n (x ∷ xs) = if eqb c x.0 then (n, x.1) ∷ pairs_by c (suc n) xs else pairs_by c (suc n) xs

-- each entry is under a number below this one
abbrev pub AreBelow : ℕ → List (ℕ × JournalEntry) → Type 0
AreBelow n [] = Unit {0}
AreBelow n (x ∷ xs) = (x.0 < n) × AreBelow n xs

-- each entry is under this caller's number
abbrev pub AreBy : ℕ → List (ℕ × JournalEntry) → Type 0
AreBy c [] = ⊤
AreBy c (z ∷ zs) = (z.0 ≡ c) × AreBy c zs

-- each entry is of the process with this name
abbrev pub AreOf : Option ProcessId → List (ℕ × JournalEntry) → Type 0
AreOf o [] = ⊤
AreOf o (z ∷ zs) = (o ≡ Some z.1.step.process) × AreOf o zs

-- these entries, each with its place, the first of them having this place
abbrev pub places_from : ℕ → List (ℕ × JournalEntry) → List (ℕ × JournalEntry)
places_from n [] = []
places_from n (z ∷ zs) = (n, z.1) ∷ places_from (suc n) zs

-- the entries that come after a journal's, each with its place
abbrev pub pairs_from : List (ℕ × JournalEntry) → List (ℕ × JournalEntry) → List (ℕ × JournalEntry)
pairs_from all zs = places_from (length all) zs

-- the first of all messages are these
pub record IsFront (net all : List Envelope) : Type 0 where
  pub more : List Envelope
  pub all_are : all ≡ net ++ more

-- Parts of a view.

-- no part of a journal
abbrev pub no_journal : JournalView
no_journal = record { keeps = false; names = []; opened = 0; given = 0; all = [] }

-- no process
abbrev pub no_process : ProcessView
no_process = record { works = false; place = 0; name = None; own = []; net = [] }

-- no pass
abbrev pub no_pass : PassView
no_pass = record { holds = false; caller = 0; pairs = [] }

-- the journal's seat
abbrev pub keeper : List ProcessId → ℕ → ℕ → List (ℕ × JournalEntry) → View
keeper names opened given all = record {
  journal = record { keeps = true; names = names; opened = opened; given = given; all = all };
  process = no_process;
  pass = no_pass;
}

-- a process's
abbrev pub worker : ProcessView → View
worker p = record { journal = no_journal; process = p; pass = no_pass }

-- a pass
abbrev pub holder : ℕ → List (ℕ × JournalEntry) → View
holder c ps = record {
  journal = no_journal;
  process = no_process;
  pass = record { holds = true; caller = c; pairs = ps };
}

-- a seat that knows nothing
abbrev pub spent : View
spent = record { journal = no_journal; process = no_process; pass = no_pass }

-- a seat with another's process beside what it has
abbrev pub beside : View → View → View
beside v w = record v { process = w.process }

-- a seat without its process
abbrev pub without_process : View → View
without_process v = record v { process = no_process }

-- of a seat, its process alone
abbrev pub process_part : View → View
process_part v = record { journal = no_journal; process = v.process; pass = no_pass }

-- a seat with another's pass beside what it has
abbrev pub beside_pass : View → View → View
beside_pass v w = record v { pass = w.pass }

-- a seat without its pass
abbrev pub without_pass : View → View
without_pass v = record v { pass = no_pass }

-- of a seat, its pass alone
abbrev pub pass_part : View → View
pass_part v = record { journal = no_journal; process = no_process; pass = v.pass }

-- A process.

-- a process at this place, with this name, that has these entries and noted these messages
abbrev pub process_at : ℕ → Option ProcessId → List JournalEntry → List Envelope → ProcessView
process_at place name own net = record { works = true; place = place; name = name; own = own; net = net }

-- it notes these messages
abbrev pub noted : ProcessView → List Envelope → ProcessView
noted p net = record p { net = net }

-- it has the entries of a turn more
abbrev pub entered_by : ProcessView → List (ℕ × JournalEntry) → ProcessView
entered_by p zs = record p { own = p.own ++ entries_in zs }

-- Changes of a view.

-- one process more has a seat
abbrev pub opened_more : View → View
opened_more v = record v { journal = record v.journal { opened = suc v.journal.opened } }

-- the next process
abbrev pub newcomer : View → View
newcomer v = worker (process_at v.journal.opened (slice_get v.journal.names v.journal.opened) [] [])

-- one pass more was given
abbrev pub given_more : View → View
given_more v = record v { journal = record v.journal { given = suc v.journal.given } }

-- the next pass
abbrev pub new_pass : View → View
new_pass v = holder v.journal.given []

-- its process notes the messages of its journal
abbrev pub with_net : View → View
with_net v = record v { process = noted v.process (net_of (entries_in v.journal.all)) }

-- the journal has the entries of a turn more, its process and its pass, too
abbrev pub entered : View → List (ℕ × JournalEntry) → View
entered v zs = record {
  journal = record v.journal { all = v.journal.all ++ zs };
  process = entered_by v.process zs;
  pass = record v.pass { pairs = v.pass.pairs ++ pairs_from v.journal.all zs };
}
