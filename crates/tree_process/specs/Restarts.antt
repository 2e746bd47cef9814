-- A restart and a trim of one process.
use Rattle.std.specs.Prelude.{◌≡◌, ℕ, false, Option, Some}
use Rattle.protocol.specs.declared.events.Reaction.{Reaction}
use Rattle.protocol.specs.declared.events.StepError.{StepError}
use Rattle.protocol.specs.declared.events.StepError.TheVariants.{Memory, Device, Failed, Exhausted}
use Rattle.process_state.specs.States.{CoreState, SameCore}
use Rattle.process_state.specs.Restarting.{ProcessNotRestarted, ProcessNotTrimmed, ProcessRestarts, ProcessTrims}
use Rattle.tree_state.specs.Steps.{KeepsSoundLog, records_kept}
use Rattle.tree_state.specs.Worlds.{CannotReopenAt, HasFailed, KeepsBytes, RestartsData, TrimsData}
use Rattle.resource_manager.specs.Data.{ManagerData, DataRests}
use Rattle.log_records.specs.Sights.{left_by}

-- the process restarts, and keeps N of its unforced records
pub record RestartsNode (before behind : CoreState) (after : ManagerData) (bytes : Option ℕ)
    (made : ℕ × Reaction) : Type 0 where
  pub keep : ℕ
  pub keeps : KeepsBytes before bytes keep
  pub restarts : ProcessRestarts before keep behind made.1
  pub holdings : RestartsData before.place.role (left_by before.log keep) after
  pub count : made.0 ≡ records_kept before keep

-- the device failed in its restart
pub record ProcessRestartBreaks (before behind : CoreState) (bytes : Option ℕ) : Type 0 where
  pub keep : ℕ
  pub keeps : KeepsBytes before bytes keep
  pub broken : ProcessNotRestarted before keep behind Device

-- why the process did not restart, and what that leaves
abbrev pub NoRestart : CoreState → CoreState → ManagerData → ManagerData → Option ℕ → StepError → Type 0
NoRestart before behind old new bytes Memory = SameCore before behind × DataRests old new
NoRestart before behind old new bytes Device = ProcessRestartBreaks before behind bytes
NoRestart before behind old new bytes Exhausted =
    SameCore before behind × DataRests old new × CannotReopenAt (Some before) bytes
NoRestart before behind old new bytes e = ⊥

-- the log of the process, which is up, is trimmed, and N records remain
pub record TrimsNode (before behind : CoreState) (old new : ManagerData) (remain : ℕ) : Type 0 where
  pub works : before.log.failed ≡ false
  pub sound : KeepsSoundLog before
  pub trims : ProcessTrims before behind remain
  pub holdings : TrimsData before.place.role old new

-- the device failed in a trim
pub record ProcessTrimBreaksOff (before behind : CoreState) : Type 0 where
  pub works : before.log.failed ≡ false
  pub sound : KeepsSoundLog before
  pub broken : ProcessNotTrimmed before behind Device

-- why the process was not trimmed, and what that leaves
abbrev pub NoTrim : CoreState → CoreState → ManagerData → ManagerData → StepError → Type 0
NoTrim before behind old new Memory = SameCore before behind × DataRests old new
NoTrim before behind old new Device = ProcessTrimBreaksOff before behind
NoTrim before behind old new Failed = SameCore before behind × DataRests old new × HasFailed (Some before)
NoTrim before behind old new e = ⊥
