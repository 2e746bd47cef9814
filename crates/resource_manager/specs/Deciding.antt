-- An operator's decision of a branch that is prepared, without its parent.
use Rattle.std.specs.Prelude.{◌≡◌, ◌≢◌, ℕ, true, false, List, [], None}
use Rattle.xa_tables.specs.declared.states.BranchState.TheVariants.{S3, S5}
use Rattle.xa_xid.specs.declared.xid.Xid.{Xid}
use Rattle.xa_branch.specs.Names.{same}
use Rattle.key_lists.specs.Holders.{without}
use Rattle.xa_assoc.specs.Answers.{SameStates, TakesTableRow, state_at}
use Rattle.protocol.specs.declared.names.Outcome.{Outcome}
use Rattle.protocol.specs.declared.names.Outcome.TheVariants.{Committed, Aborted}
use Rattle.protocol.specs.declared.records.BranchName.{BranchName}
use Rattle.protocol.specs.declared.records.Record.{Record}
use Rattle.protocol.specs.declared.records.Record.TheVariants.{HeurCommit, HeurRollback}
use Rattle.protocol.specs.Nodes.{Written}
use Rattle.log_text.specs.Parts.{name_in}
use Rattle.log_records.specs.Sights.{Breaks}
use Rattle.process_state.specs.States.{wrote}
use Rattle.resource_manager.specs.Sights.{ManagerSight, SameManager}
use Rattle.resource_manager.specs.Ends.{OthersStayDecided, logged_under, state_of}
use Rattle.protocol.specs.CoordinatorRows.{forced}
use Rattle.resource_manager.specs.declared.errors.DecideError.{DecideError}
use Rattle.resource_manager.specs.declared.errors.DecideError.TheVariants.{Memory, Device, Failed, NotInDoubt, Exhausted}

-- the record of a decision
abbrev pub decides_record : BranchName → Outcome → Record
decides_record b Committed = HeurCommit b
decides_record b Aborted = HeurRollback b

-- what a decision writes of a branch: one forced record
abbrev pub decision_writes : Xid → Outcome → List Written
decision_writes x o = forced (decides_record (name_in x).1 o)

-- a prepared branch was decided so: its record is forced, it has let its writes and locks go, and it was told
-- nothing yet
pub record ManagerDecides (old new : ManagerSight) (x : Xid) (o : Outcome) : Type 0 where
  pub works : old.log.failed ≡ false
  pub prepared : state_at old.tables x ≡ S3
  pub tables : TakesTableRow old.tables new.tables x S5
  pub log : new.log ≡ wrote old.log (decision_writes x o) (logged_under x (decision_writes x o))
  pub own : new.writes x ≡ []
  pub others : (y : Xid) → same x y ≡ false → new.writes y ≡ old.writes y
  pub held : (k : List ℕ) → new.holders k ≡ without (old.holders k) x
  pub decided : new.decided x ≡ record { outcome = o; told = None }
  pub others_decided : OthersStayDecided old new x
  pub boot : new.boot ≡ old.boot

-- the device failed under the record of a decision, and the branch stays
pub record DecideFails (old new : ManagerSight) (x : Xid) (o : Outcome) : Type 0 where
  pub works : old.log.failed ≡ false
  pub prepared : state_at old.tables x ≡ S3
  pub log : Breaks (state_of old.log) (state_of new.log) (logged_under x (decision_writes x o))
  pub tables : SameStates old.tables new.tables
  pub writes : (y : Xid) → new.writes y ≡ old.writes y
  pub decided : (y : Xid) → new.decided y ≡ old.decided y
  pub boot : new.boot ≡ old.boot

-- why a branch was not decided, and what that leaves
abbrev pub ManagerNotDecided : ManagerSight → ManagerSight → Xid → Outcome → DecideError → Type 0
ManagerNotDecided old new x o Failed = (old.log.failed ≡ true) × SameManager old new
ManagerNotDecided old new x o NotInDoubt = (old.log.failed ≡ false)
    × (state_at old.tables x ≢ S3) × SameManager old new
ManagerNotDecided old new x o Memory = SameManager old new
ManagerNotDecided old new x o Device = DecideFails old new x o
ManagerNotDecided old new x o Exhausted = (old.spent ≡ true) × SameManager old new
