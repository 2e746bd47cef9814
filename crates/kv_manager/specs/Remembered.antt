-- What a manager remembers of its log.
use Rattle.std.specs.Prelude.{List}
use Rattle.protocol.specs.declared.records.LogRecord.{LogRecord}
use Rattle.log_records.specs.Sights.{IsLogFront, LogState}
use Rattle.kv_state.specs.Remembered.{RemembersData}
use Rattle.kv_manager.specs.declared.remembered.Front.{Front}

-- the front is that of the log, and what is remembered is what its records say
pub record IsFrontOf (log : LogState) (f : Front) : Type 0 where
  pub first : List LogRecord
  pub stands : IsLogFront log.sight f.size first
  pub says : RemembersData first f.remembered
