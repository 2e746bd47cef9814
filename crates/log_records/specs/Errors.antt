-- The numbers of a log's errors.
use Rattle.std.specs.Prelude.{ℕ}
use Rattle.log_records.specs.declared.log.LogError.{LogError}
use Rattle.log_records.specs.declared.log.LogError.TheVariants.{Memory, Device}
use Rattle.log_records.specs.declared.opening.LogOpenError.{LogOpenError}
use Rattle.log_records.specs.declared.opening.LogOpenError.TheVariants as opening

-- the number of an error
abbrev pub log_error_number : LogError → ℕ
log_error_number Memory = 1
log_error_number Device = 2

-- the number of a refusal to open
abbrev pub open_error_number : LogOpenError → ℕ
open_error_number opening.Memory = 1
open_error_number opening.Device = 2
open_error_number (opening.Damaged place) = 3
open_error_number opening.OldFormat = 4
