-- The steps in which devices failed, beside the journal of those that were made.
use Rattle.std.specs.Prelude.{◌≤◌, ◌-◌, ◌+◌, ℕ, Option, Some, None, option_map, List, [], ◌∷◌, ◌++◌, take, drop}
use Rattle.protocol.specs.declared.names.ProcessId.{ProcessId}
use Rattle.protocol.specs.declared.messages.Envelope.{Envelope}
use Rattle.protocol.specs.declared.events.JournalEntry.{JournalEntry}
use Rattle.protocol.specs.declared.events.Fault.{Fault}
use Rattle.protocol.specs.declared.events.Happening.{Happening}
use Rattle.protocol_words.specs.Variants.{ActInput, Handles, MessageInput, Restarting, Trimming}
use Rattle.protocol.specs.declared.events.Step.{Step}
use Rattle.protocol.specs.Nodes.{no_effect, reaction_of}
use Rattle.protocol.specs.Plays.{sent_as}
use Rattle.log_text.specs.Forms.{header}
use Rattle.log_text.specs.Payloads.{records_text}
use Rattle.log_text.specs.declared.form.LogFormat.TheVariants.{Second}
use Rattle.log_records.specs.Sights.{records_of}
use Rattle.process_state.specs.States.{CoreState, form_of}
use Rattle.tree_state.specs.Faults.{trim_fault}
use Rattle.tree_faults.specs.declared.count.Count.{Count}
use Rattle.tree_faults.specs.Counts.{count_in, left_since, trim_left}
use Rattle.tree_faults.specs.declared.faults.FaultCause.{FaultCause}
use Rattle.tree_faults.specs.declared.faults.FaultCause.TheVariants.{Act as ActCause, Message as MessageCause, Restart as RestartCause, Trim as TrimCause}
use Rattle.tree_faults.specs.declared.faults.FailedStep.{FailedStep}
use Rattle.tree_faults.specs.declared.faults.LastFault.{LastFault}

-- those that are counted, in order, and the last one, where it is not
pub record FaultsSight : Type 0 where
  pub counted : List FailedStep
  pub last : Option LastFault

-- a step, if it is one, before which N steps had been made
abbrev pub placed_in : ℕ → Option Step → List FailedStep
placed_in n None = []
placed_in n (Some step) = record { made = n; step = step } ∷ []

-- Traces.

-- the entry of a step in which a device failed: it shows nothing
abbrev pub failed_entry : Step → JournalEntry
failed_entry step = record { step = step; reaction = reaction_of no_effect }

-- the entries of these steps, the first of which is the one after N, with each fault after those that were
-- made before it
unfoldable pub woven : ℕ → List JournalEntry → List FailedStep → List JournalEntry
woven n es [] = es
woven n es (f ∷ fs) =
    take (f.made - n) es ++ failed_entry f.step ∷ woven f.made (drop (f.made - n) es) fs

-- the places of the faults rise from the first number to the second
abbrev pub AreInOrder : ℕ → List FailedStep → ℕ → Type 0
AreInOrder first [] last = first ≤ last
AreInOrder first (f ∷ fs) last = (first ≤ f.made) × AreInOrder f.made fs last

-- What a fault left.

-- the bytes of a log of just these records
abbrev pub log_bytes : CoreState → List ℕ
log_bytes s = header Second ++ records_text (form_of s.place) (records_of s.log.kept)

-- the fault of a step with this cause, by the count before it, where the process stands so now
abbrev pub fault_by : FaultCause → Count → CoreState → Fault
fault_by (ActCause a) before s = left_since before.records before (count_in s)
fault_by (MessageCause k) before s = left_since before.records before (count_in s)
fault_by (RestartCause k) before s = left_since (before.forced + k) before (count_in s)
fault_by (TrimCause text) before s = trim_fault (trim_left text.items (log_bytes s) before (count_in s))

-- what was to happen, where these messages were sent
abbrev pub happening_by : List Envelope → FaultCause → Option Happening
happening_by net (ActCause a) = Some (Handles (ActInput a))
happening_by net (MessageCause k) = option_map (λ l. Handles (MessageInput k l.message)) (sent_as net k)
happening_by net (RestartCause k) = Some (Restarting k)
happening_by net (TrimCause text) = Some Trimming

-- the step of the last fault, where it is known what was to happen, and how the process stands now
abbrev pub step_by : LastFault → Option Happening → Option CoreState → Option Step
step_by f None s = None
step_by f (Some h) None = None
step_by f (Some h) (Some s) =
    Some (record { process = f.process; happening = h; fault = Some (fault_by f.cause f.before s) })

-- the step of the last fault, if there is one, where these messages were sent and the processes stand so now
abbrev pub last_step : List Envelope → (ProcessId → Option CoreState) → Option LastFault → Option Step
last_step net at None = None
last_step net at (Some f) = step_by f (happening_by net f.cause) (at f.process)

-- the entry of a step, if it is one, as a list
abbrev pub failed_entries : Option Step → List JournalEntry
failed_entries None = []
failed_entries (Some step) = failed_entry step ∷ []
