-- What the code keeps of steps, as the definitions see it.
use Rattle.std.specs.Prelude.{◌≡◌, ◌+◌, ◌-◌, ◌<◌, ◌≤◌, ℕ, Bool, true, false, Option, Some, None, List, [], ◌++◌, length}
use Rattle.std.specs.Global.{Vec}
use Rattle.std.specs.Vec.{vec_capacity, vec_len}
use Rattle.protocol.specs.declared.messages.Envelope.{Envelope}
use Rattle.protocol.specs.declared.events.JournalEntry.{JournalEntry}
use Rattle.tree_journal.specs.declared.parts.Parts.{Parts as PartsKept}
use Rattle.tree_journal.specs.declared.short_step.LastStep.{LastStep}
use Rattle.tree_journal.specs.declared.short_step.ShortStep.{ShortStep}
use Rattle.tree_journal.specs.Steps.{IsWhole, Parts, ends_after, ends_of, entries_of, first_starts, placed_steps}

-- the lists that are kept
abbrev pub parts_of : PartsKept → Parts
parts_of ps = record {
  acts = ps.acts.items;
  asides = ps.asides.items;
  records = ps.records.items;
  sent = ps.sent.items;
}

-- a step can begin without a growth
pub record CanBegin (ps : PartsKept) : Type 0 where
  pub acts : vec_len ps.acts < vec_capacity ps.acts
  pub asides : vec_len ps.asides < vec_capacity ps.asides

-- the last step's records and messages can be placed without a growth
pub record CanPlace (ps : PartsKept) (l : LastStep) : Type 0 where
  pub records : vec_len ps.records + length l.written ≤ vec_capacity ps.records
  pub sent : vec_len ps.sent + length l.messages ≤ vec_capacity ps.sent

-- there is no last step
abbrev pub is_placed : Option LastStep → Bool
is_placed None = true
is_placed (Some l) = false

-- the messages of the last step
abbrev pub waiting_in : Option LastStep → List Envelope
waiting_in None = []
waiting_in (Some l) = l.messages

-- what says whether a step can be entered without a growth: whether the last step is placed, and how many
-- acts and asides more there is room for
pub record Room : Type 0 where
  pub is_placed : Bool
  pub acts : ℕ
  pub asides : ℕ

-- The messages that are placed, those of the last step that are not, and the entries of all steps; the room
-- for a step more.
pub record StepsState : Type 0 where
  pub sent : List Envelope
  pub waiting : List Envelope
  pub entries : List JournalEntry
  pub room : Room

-- what a contract sees of what the code keeps
abbrev pub steps_seen : PartsKept → Vec ShortStep → Option LastStep → StepsState
steps_seen ps xs l = record {
  sent = ps.sent.items;
  waiting = waiting_in l;
  entries = entries_of (parts_of ps) (placed_steps xs.items) l;
  room = record {
    is_placed = is_placed l;
    acts = vec_capacity ps.acts - length ps.acts.items;
    asides = vec_capacity ps.asides - length ps.asides.items;
  };
}

-- each step has its entry, and the lists of records and messages end where those of the kept steps do
pub record AreWhole (ps : PartsKept) (xs : Vec ShortStep) (l : Option LastStep) : Type 0 where
  pub whole : IsWhole (parts_of ps) (placed_steps xs.items) l
  pub ends : ends_after first_starts xs.items ≡ ends_of (parts_of ps)

-- a step can be entered without a growth
pub record HasStepRoom (r : Room) : Type 0 where
  pub placed : r.is_placed ≡ true
  pub acts : 0 < r.acts
  pub asides : 0 < r.asides

-- the messages and the entries stay, in their places
pub record KeepsSteps (old new : StepsState) : Type 0 where
  pub sent : new.sent ≡ old.sent
  pub waiting : new.waiting ≡ old.waiting
  pub entries : new.entries ≡ old.entries

-- the messages of the last step are placed, and the entries stay
pub record Places (old new : StepsState) : Type 0 where
  pub sent : new.sent ≡ old.sent ++ old.waiting
  pub waiting : new.waiting ≡ []
  pub entries : new.entries ≡ old.entries
  pub room : HasStepRoom new.room
