-- Turns, as the definitions see them.
use Rattle.std.specs.Prelude.{◌≡◌, ℕ, List, [], ◌∷◌, ◌++◌}
use Rattle.std.specs.List.{flat_map}
use Rattle.std.specs.Global.{Vec}
use Rattle.protocol.specs.declared.events.JournalEntry.{JournalEntry}

-- the entries that were made in a room, each with its caller's number; and for how many more there is room
pub record RoomState : Type 0 where
  pub entries : List (ℕ × JournalEntry)
  pub more : ℕ

-- the entries of these turns, one after another
abbrev pub all_of : List (Vec (ℕ × JournalEntry)) → List (ℕ × JournalEntry)
all_of turns = flat_map (λ t. t.items) turns

-- one turn more is after these, of just these entries
pub record LinksTurn (old new : List (Vec (ℕ × JournalEntry))) (made : List (ℕ × JournalEntry)) : Type 0 where
  pub turn : Vec (ℕ × JournalEntry)
  pub new_are : new ≡ old ++ turn ∷ []
  pub entries_are : turn.items ≡ made
