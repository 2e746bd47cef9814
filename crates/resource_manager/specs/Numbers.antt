-- The numbers of a manager's errors.
use Rattle.std.specs.Prelude.{ℕ}
use Rattle.resource_manager.specs.declared.errors.RestartError.{RestartError}
use Rattle.resource_manager.specs.declared.errors.RestartError.TheVariants as restarts
use Rattle.resource_manager.specs.declared.errors.TrimError.{TrimError}
use Rattle.resource_manager.specs.declared.errors.TrimError.TheVariants as trims
use Rattle.resource_manager.specs.declared.errors.DecideError.{DecideError}
use Rattle.resource_manager.specs.declared.errors.DecideError.TheVariants as decides

-- the number of why a manager did not restart
abbrev pub restart_number : RestartError → ℕ
restart_number restarts.Memory = 1
restart_number restarts.Device = 2
restart_number restarts.Exhausted = 4

-- the number of why a manager's log was not trimmed
abbrev pub trim_number : TrimError → ℕ
trim_number trims.Memory = 1
trim_number trims.Device = 2
trim_number trims.Failed = 5

-- the number of why an operator's decision was not made
abbrev pub decide_number : DecideError → ℕ
decide_number decides.Memory = 1
decide_number decides.Exhausted = 4
decide_number decides.Device = 5
decide_number decides.Failed = 5
decide_number decides.NotInDoubt = 7
