-- What a subordinate remembers of its log.
use Rattle.std.specs.Prelude.{◌≡◌, List, []}
use Rattle.protocol.specs.declared.names.ProcessId.{ProcessId}
use Rattle.protocol.specs.declared.records.LogRecord.{LogRecord}
use Rattle.protocol.specs.Nodes.{AtLeaf, Place}
use Rattle.log_records.specs.Sights.{IsLogFront, LogSight}
use Rattle.sub_branches.specs.Remembered.{RemembersBranches}
use Rattle.sub_process.specs.declared.subordinate.Front.{Front}

-- the front is that of the log, and what is remembered is what its records say
pub record IsFrontOf (place : Place) (log : LogSight) (f : Front) : Type 0 where
  pub first : List LogRecord
  pub stands : IsLogFront log f.size first
  pub says : (p : ProcessId) → place.role ≡ AtLeaf p → RemembersBranches place p first f.remembered

-- the front is the header, and nothing is remembered
pub record IsHeader (f : Front) : Type 0 where
  pub size : f.size ≡ 5
  pub says : (place : Place) (p : ProcessId) → RemembersBranches place p [] f.remembered
