-- What a caller's pass shows.
use Rattle.std.specs.Prelude.{◌≡◌, ℕ, List, [], ◌∷◌, ◌++◌}
use Rattle.protocol.specs.declared.events.JournalEntry.{JournalEntry}
use Rattle.cluster_ties.specs.Views.{places_from}

-- a caller's pass: its number, and the pairs of a place, from 0, and an entry that it was told
pub record PassState : Type 0 where
  pub caller : ℕ
  pub pairs : List (ℕ × JournalEntry)

-- the pass has one pair more, of this place and this entry
pub record NotesOne (old new : PassState) (place : ℕ) (x : JournalEntry) : Type 0 where
  pub caller : new.caller ≡ old.caller
  pub pairs : new.pairs ≡ old.pairs ++ (place, x) ∷ []

-- the pass has the pairs of these entries more, of which the first is at this place
pub record NotesAll (old new : PassState) (place : ℕ) (zs : List (ℕ × JournalEntry)) : Type 0 where
  pub caller : new.caller ≡ old.caller
  pub pairs : new.pairs ≡ old.pairs ++ places_from place zs
