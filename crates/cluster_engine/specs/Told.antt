-- What the application was told in a journal, by transaction.
use Rattle.std.specs.Prelude.{◌≡◌, ℕ, suc, List, [], ◌∷◌, ◌++◌, IsPermutation, IsSorted, slice_get}
use Rattle.std.specs.List.{flat_map}
use Rattle.std.specs.Option.{option_to_list}
use Rattle.protocol.specs.declared.events.JournalEntry.{JournalEntry}
use Rattle.protocol.specs.declared.events.Told.{Told}
use Rattle.protocol.specs.Texts.{told_lines}
use Rattle.trace_lines.specs.Trace.{lines_text}
use Rattle.cluster_engine.specs.declared.told.ToldPlace.{ToldPlace}
use Rattle.cluster_engine.specs.contracts.told.ToldPlaceOrd.TheImpl as places

-- all that these entries told, in their order
abbrev pub told_in : List (ℕ × JournalEntry) → List Told
told_in [] = []
told_in (x ∷ xs) = option_to_list x.1.reaction.told ++ told_in xs

-- for each of these, of which the first has this place: the boot and the number of its transaction, and its
-- place
abbrev pub told_places : ℕ → List Told → List ToldPlace
told_places n [] = []
told_places n (t ∷ ts) = record { boot = t.txn.boot; sequence = t.txn.sequence; place = n }
    ∷ told_places (suc n) ts

-- the lines of what was told at these places, one after another
abbrev pub told_text : List Told → List ToldPlace → List ℕ
told_text told places = flat_map (λ p. lines_text (told_lines (slice_get told p.place))) places

-- these lines were added
abbrev pub AddsTold : List Told → List ToldPlace → List ℕ → List ℕ → Type 0
AddsTold told places old new = new ≡ old ++ told_text told places

-- The text is the lines of all that was told, in order of boot and sequence; of one transaction, in order of
-- the journal.
pub record TellsAll (journal : List (ℕ × JournalEntry)) (text : List ℕ) : Type 0 where
  pub lines : List ToldPlace
  pub all : IsPermutation (told_places 0 (told_in journal)) lines
  pub sorted : IsSorted places.ghosts.cmp lines
  pub text_is : text ≡ told_text (told_in journal) lines
