-- Where messages stand.
use Rattle.std.specs.Prelude.{◌≡◌, ◌≤◌, ℕ, zero, suc, Option, Some, None, List, [], ◌∷◌, ◌++◌, drop, length, slice_get, take}
use Rattle.std.specs.Global.{Vec}
use Rattle.protocol.specs.declared.events.JournalEntry.{JournalEntry}
use Rattle.protocol.specs.declared.messages.Envelope.{Envelope}
use Rattle.cluster_journal.specs.declared.spots.Spot.{Spot}

-- the places of N messages of an entry, which has this place in the turn that has this place
abbrev pub spots_at : ℕ → ℕ → ℕ → List Spot
spots_at t n zero = []
spots_at t n (suc m) = spots_at t n m ++ record { turn = t; entry = n; message = m } ∷ []

-- the places of all messages of these entries of a turn, of which the first has this place in it
abbrev pub spots_in : ℕ → ℕ → List (ℕ × JournalEntry) → List Spot
spots_in t n [] = []
spots_in t n (x ∷ xs) = spots_at t n (length x.1.reaction.messages) ++ spots_in t (suc n) xs

-- the places of all messages of these turns, of which the first is at this place
abbrev pub spots_of : ℕ → List (Vec (ℕ × JournalEntry)) → List Spot
spots_of t [] = []
spots_of t (e ∷ es) = spots_in t 0 e.items ++ spots_of (suc t) es

-- this message of an entry, if there is the entry
abbrev pub message_of : Option (ℕ × JournalEntry) → ℕ → Option Envelope
message_of None i = None
message_of (Some x) i = slice_get x.1.reaction.messages i

-- the entry at this place of a turn, if there is the turn
abbrev pub entry_of : Option (Vec (ℕ × JournalEntry)) → ℕ → Option (ℕ × JournalEntry)
entry_of None n = None
entry_of (Some e) n = slice_get e.items n

-- the message at this place, if there is one
abbrev pub message_in : List (Vec (ℕ × JournalEntry)) → Spot → Option Envelope
message_in es s = message_of (entry_of (slice_get es s.turn) s.entry) s.message

-- the entries of the first of these turns, if there is one
abbrev pub first_of : List (Vec (ℕ × JournalEntry)) → List (ℕ × JournalEntry)
first_of [] = []
first_of (e ∷ es) = e.items

-- These are the places of all messages of the placed turns, and of those of the first N entries of the next
-- turn.
pub record AreFound (placed late : List (Vec (ℕ × JournalEntry))) (found : ℕ)
    (spots : List Spot) : Type 0 where
  pub within : found ≤ length (first_of late)
  pub all : spots ++ spots_in (length placed) found (drop found (first_of late))
      ≡ spots_of 0 (placed ++ take 1 late)
