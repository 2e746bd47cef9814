-- What a coordinator remembers of its log.
use Rattle.std.specs.Prelude.{⊤, Option, Some, None, List}
use Rattle.protocol.specs.declared.records.LogRecord.{LogRecord}
use Rattle.protocol.specs.LogNames.{own_records}
use Rattle.log_records.specs.Sights.{IsLogFront}
use Rattle.coord_records.specs.Remembered.{RemembersCases}
use Rattle.coord_process.specs.declared.coordinator.Front.{Front}
use Rattle.coord_process.specs.States.{CoordinatorValue, place_of}

-- the front is that of the log, and what is remembered is what its records say
pub record IsFrontOf (v : CoordinatorValue) (f : Front) : Type 0 where
  pub first : List LogRecord
  pub stands : IsLogFront v.log.sight f.size first
  pub says : RemembersCases (own_records (place_of v) first) f.remembered

-- so it is, if any is remembered
abbrev pub IsRemembered : CoordinatorValue → Option Front → Type 0
IsRemembered v None = ⊤
IsRemembered v (Some f) = IsFrontOf v f
