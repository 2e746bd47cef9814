-- What a restart remembers of a subordinate's log.
use Rattle.std.specs.Prelude.{List}
use Rattle.protocol.specs.declared.names.ProcessId.{ProcessId}
use Rattle.protocol.specs.declared.records.LogRecord.{LogRecord}
use Rattle.protocol.specs.Nodes.{Place}
use Rattle.sub_branches.specs.Rebuilt.{RecordsLeave}
use Rattle.sub_branches.specs.Tables.{AreLiveOf}
use Rattle.sub_branches.specs.declared.rebuilt.RememberedBranches.{RememberedBranches}

-- what is remembered is what these records leave: the cases of the process's own in order of their first
-- records, and what is kept of those that are live
pub record RemembersBranches (place : Place) (p : ProcessId) (ls : List LogRecord)
    (m : RememberedBranches) : Type 0 where
  pub leaves : RecordsLeave place p ls m.cases
  pub listed : AreLiveOf m.cases.branches m.cases.order.keys

-- it is what some records leave
abbrev pub IsOfSome : Place → ProcessId → RememberedBranches → Type 0
IsOfSome place p m = (ls : List LogRecord) × RemembersBranches place p ls m
