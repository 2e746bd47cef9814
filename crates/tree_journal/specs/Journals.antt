-- What the code of a journal keeps, as the definitions see it.
use Rattle.std.specs.Prelude.{◌≡◌, ◌-◌, ℕ, Bool, false, List, [], ◌∷◌, ◌++◌, length, replicate}
use Rattle.protocol.specs.declared.names.ProcessId.{ProcessId}
use Rattle.protocol.specs.declared.messages.Envelope.{Envelope}
use Rattle.protocol.specs.declared.events.JournalEntry.{JournalEntry}
use Rattle.protocol.specs.declared.events.Input.{Input}
use Rattle.protocol.specs.declared.events.Reaction.{Reaction}
use Rattle.protocol_words.specs.Variants.{ActInput, MessageInput}
use Rattle.tree_state.specs.Worlds.{entry_at, marks, undelivered}
use Rattle.tree_journal.specs.Kept.{HasStepRoom, Room}

-- Every message ever sent, with the mark whether it was delivered, and every step that was made; the room for
-- a step more, and how many messages have a mark of their own.
pub record JournalState : Type 0 where
  pub net : List Envelope
  pub delivered : List Bool
  pub entries : List JournalEntry
  pub room : Room
  pub marked : ℕ

-- the marks of the messages that have none of their own
abbrev pub unmarked : List Envelope → List Bool → List Bool
unmarked net bs = replicate (length net - length bs) false

-- What a call does.

-- a step can be entered without a growth
pub record IsReadyJournal (j : JournalState) : Type 0 where
  pub room : HasStepRoom j.room
  pub marked : j.marked ≡ length j.net

-- the messages, their marks and the steps stay
pub record SameJournal (old new : JournalState) : Type 0 where
  pub net : new.net ≡ old.net
  pub delivered : new.delivered ≡ old.delivered
  pub entries : new.entries ≡ old.entries

-- the marks once this input was handled: its message is delivered
abbrev pub marked_by : Input → List Bool → List Bool
marked_by (ActInput a) bs = bs
marked_by (MessageInput k m) bs = marks bs k

-- a step was entered: its message is delivered, and its own messages are sent
pub record EntersJournal (old new : JournalState) (q : ProcessId) (input : Input)
    (reaction : Reaction) : Type 0 where
  pub net : new.net ≡ old.net ++ reaction.messages
  pub delivered : new.delivered ≡ marked_by input old.delivered ++ undelivered reaction.messages
  pub entries : new.entries ≡ old.entries ++ entry_at q input reaction ∷ []
