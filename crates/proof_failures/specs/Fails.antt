-- The event that ends where a device fails, and the entry of the step in which it did.
use Rattle.std.specs.Prelude.{◌≡◌, ◌<◌, ℕ, Option, Some, None, List, take, slice_get}
use Rattle.protocol.specs.declared.names.ProcessId.{ProcessId}
use Rattle.protocol.specs.declared.messages.Envelope.{Envelope}
use Rattle.protocol.specs.declared.events.JournalEntry.{JournalEntry}
use Rattle.protocol.specs.declared.events.Event.{Event}
use Rattle.protocol.specs.declared.events.Event.TheVariants.{Deliver, Settle, Restart, Trim}
use Rattle.protocol_words.specs.Variants.{ActInput, ActOf, Handles, MessageInput, Trimming}
use Rattle.protocol.specs.declared.events.Input.{Input}
use Rattle.protocol.specs.Plays.{process_of_act, sent_as}
use Rattle.protocol.specs.Trees.{root_of}
use Rattle.tree_state.specs.Steps.{restart_of}
use Rattle.tree_state.specs.Runs.{EventsLead}
use Rattle.tree_state.specs.Worlds.{DeviceFails, RestartFails, Settles, TrimFails, WorldState, least_open}
use Rattle.tree_state.specs.Faults.{TrimLeaves, WritesBelow, fault_entry, input_fault, restart_fault, trim_fault}

-- the device of the process failed under an input, at a coordinator below the root under a record, and this
-- is the entry of it
pub record InputFails (old new : WorldState) (q : ProcessId) (input : Input) (x : JournalEntry) : Type 0 where
  pub fails : DeviceFails old new q input
  pub writes : WritesBelow fails.before.place.role fails.broken.breaks.0.written
  pub entry : x ≡ fault_entry q (Handles input) (input_fault fails.before fails.behind)

-- the device of the receiver failed under the message with this number, at a coordinator below the root
-- under a record, and this is the entry of it
abbrev pub MessageFails : WorldState → WorldState → ℕ → Option Envelope → JournalEntry → Type 0
MessageFails old new k None x = ⊥
MessageFails old new k (Some l) x = InputFails old new l.to (MessageInput k l.message) x

-- what was delivered of a settle stands, and under the next message a device failed
pub record SettleFails (limit : ℕ) (old new : WorldState) (x : JournalEntry) : Type 0 where
  pub count : ℕ
  pub within : count < limit
  pub before : WorldState
  pub settles : Settles count old before
  pub number : ℕ
  pub next : least_open 1 before.delivered ≡ Some number
  pub fails : MessageFails before new number (sent_as before.net number) x

-- the device of the process failed in its restart, and this is the entry of it
pub record RestartBreaksOff (old new : WorldState) (q : ProcessId) (bytes : Option ℕ)
    (x : JournalEntry) : Type 0 where
  pub fails : RestartFails old new q bytes
  pub entry : x ≡ fault_entry q (restart_of fails.before fails.keep)
      (restart_fault fails.before fails.keep fails.behind)

-- the device of the process failed in a trim of its log, which left it so, and this is the entry of it
pub record TrimBreaksOff (old new : WorldState) (q : ProcessId) (x : JournalEntry) : Type 0 where
  pub fails : TrimFails old new q
  pub left : ℕ
  pub leaves : TrimLeaves fails.before fails.behind left
  pub entry : x ≡ fault_entry q Trimming (trim_fault left)

-- an event ended where a device failed, this is left, and this is the entry of the step
abbrev pub FailsAt : WorldState → Event → WorldState → JournalEntry → Type 0
FailsAt old (ActOf a) new x = InputFails old new (process_of_act (root_of old.tree) a) (ActInput a) x
FailsAt old (Deliver k) new x = MessageFails old new k (sent_as old.net k) x
FailsAt old Settle new x = SettleFails 10000 old new x
FailsAt old (Restart q bytes) new x = RestartBreaksOff old new q bytes x
FailsAt old (Trim q) new x = TrimBreaksOff old new q x

-- N events were made, and the next ended where a device failed
pub record FailsAfter (old : WorldState) (events : List Event) (n : ℕ) (new : WorldState)
    (x : JournalEntry) : Type 0 where
  pub event : Event
  pub next : slice_get events n ≡ Some event
  pub before : WorldState
  pub leads : EventsLead old (take n events) before
  pub fails : FailsAt before event new x
