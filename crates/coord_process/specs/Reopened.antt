-- Why no coordinator goes on over a log that an earlier one left.
use Rattle.std.specs.Prelude.{◌≡◌, ℕ}
use Rattle.protocol.specs.declared.events.StepError.{StepError}
use Rattle.protocol_words.specs.step_error
use Rattle.protocol.specs.Nodes.{Place}
use Rattle.log_records.specs.Sights.{LogSight, left_by, records_of}
use Rattle.process_state.specs.States.{CoreState}
use Rattle.process_state.specs.Restarting.{CannotReopen, ProcessNotRestarted}
use Rattle.coord_process.specs.declared.restarting.CoordinatorReopenError.{CoordinatorReopenError}
use Rattle.coord_process.specs.declared.restarting.CoordinatorReopenError.TheVariants.{Memory, Device, Exhausted}

-- the device failed as a process that sat here over this log restarted, where all its records were kept; and
-- that left the other log
pub record BreaksOver (place : Place) (old new : LogSight) : Type 0 where
  pub before : CoreState
  pub place_is : before.place ≡ place
  pub log_is : before.log ≡ old
  pub keep : ℕ
  pub left : left_by old keep ≡ records_of old.kept
  pub behind : CoreState
  pub log_left : behind.log ≡ new
  pub broke : ProcessNotRestarted before keep behind step_error.Device

-- a process that sits here over this log cannot append to it what its restart would, where all its records
-- are kept
pub record CannotReopenOver (place : Place) (log : LogSight) : Type 0 where
  pub before : CoreState
  pub place_is : before.place ≡ place
  pub log_is : before.log ≡ log
  pub keep : ℕ
  pub left : left_by log keep ≡ records_of log.kept
  pub beyond : CannotReopen before keep

-- why no coordinator that sits here goes on over this log, and what log is handed back: it is as it was,
-- unless the device failed
abbrev pub CoordinatorNotReopened : Place → LogSight → LogSight → CoordinatorReopenError → Type 0
CoordinatorNotReopened place old new Memory = new ≡ old
CoordinatorNotReopened place old new Device = BreaksOver place old new
CoordinatorNotReopened place old new Exhausted = (new ≡ old) × CannotReopenOver place old

-- the number of an error
abbrev pub reopen_number : CoordinatorReopenError → ℕ
reopen_number Memory = 1
reopen_number Device = 2
reopen_number Exhausted = 3

-- the error of a process that goes on over a log, for that of its restart
abbrev pub error_of_restart : StepError → CoordinatorReopenError
error_of_restart step_error.Memory = Memory
error_of_restart step_error.Exhausted = Exhausted
error_of_restart e = Device
