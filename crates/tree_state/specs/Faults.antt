-- What a device's failure left of a step, and the journal's entry of that.
use Rattle.std.specs.Prelude.{◌≡◌, ◌≢◌, ◌-◌, ⊤, ℕ, zero, suc, Some, List, [], length}
use Rattle.protocol.specs.declared.names.ProcessId.{ProcessId}
use Rattle.protocol.specs.declared.events.JournalEntry.{JournalEntry}
use Rattle.protocol.specs.declared.events.Fault.{Fault}
use Rattle.protocol.specs.declared.events.Happening.{Happening}
use Rattle.protocol.specs.Nodes.{Below, Role, Written, no_effect, reaction_of}
use Rattle.log_records.specs.Sights.{LogSight, left_by, records_of}
use Rattle.process_state.specs.States.{CoreState}
use Rattle.process_state.specs.Restarting.{trimmed_log}

-- the fault of a step before whose records N stood in the log: how many of its records stand, and how many
-- records more are forced than were
abbrev pub fault_of : ℕ → LogSight → LogSight → Fault
fault_of stood old new = record {
  appended = length (records_of new.kept) - stood;
  forced = length new.kept.forced - length old.kept.forced;
}

-- that of an input: all records stood
abbrev pub input_fault : CoreState → CoreState → Fault
input_fault old new = fault_of (length (records_of old.log.kept)) old.log new.log

-- that of a restart that kept N bytes after the forced front: those stood that were left
abbrev pub restart_fault : CoreState → ℕ → CoreState → Fault
restart_fault old keep new = fault_of (length (left_by old.log keep)) old.log new.log

-- a trim left the old log, 0, or the trimmed one, 1, where that is another
abbrev pub TrimLeaves : CoreState → CoreState → ℕ → Type 0
TrimLeaves old new zero = new.log.kept ≡ old.log.kept
TrimLeaves old new (suc zero) =
    (new.log.kept ≡ record { forced = trimmed_log old; unforced = [] }) × (new.log.kept ≢ old.log.kept)
TrimLeaves old new (suc (suc k)) = ⊥

-- that of a trim which left it so
abbrev pub trim_fault : ℕ → Fault
trim_fault k = record { appended = k; forced = 0 }

-- the journal's entry of a step in which a device failed: it names the event and the fault, and shows nothing
abbrev pub fault_entry : ProcessId → Happening → Fault → JournalEntry
fault_entry q happening fault =
    record {
      step = record { process = q; happening = happening; fault = Some fault };
      reaction = reaction_of no_effect;
    }

-- a process of this role has a record to append, if it is a coordinator below the root
abbrev pub WritesBelow : Role → List Written → Type 0
WritesBelow (Below p) ws = ws ≢ []
WritesBelow _ ws = ⊤
