-- The numbers of refusals.
use Rattle.std.specs.Prelude.{ℕ}
use Rattle.protocol.specs.declared.events.StepError.{StepError}
use Rattle.protocol.specs.declared.events.StepError.TheVariants.{Memory, Device, UnknownTxn, NotAChild, Closed, Failed, NotInDoubt, NothingToForget, NoSuch, Exhausted}

-- the number that is printed
abbrev pub step_error_number : StepError → ℕ
step_error_number Memory = 1
step_error_number Device = 2
step_error_number UnknownTxn = 3
step_error_number NotAChild = 4
step_error_number Closed = 5
step_error_number Failed = 6
step_error_number NotInDoubt = 7
step_error_number NothingToForget = 8
step_error_number NoSuch = 9
step_error_number Exhausted = 11
