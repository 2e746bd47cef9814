-- What a subordinate does with its manager in one event: whole pieces of work, between which no thread is at
-- work.
use Rattle.std.specs.Prelude.{◌≡◌, ℕ, Bool, true, false, List, [], ◌∷◌}
use Rattle.xa_tables.specs.declared.call.Call.{Call}
use Rattle.xa_tables.specs.declared.states.BranchState.{BranchState}
use Rattle.xa_tables.specs.declared.call.Call.TheVariants.{Commit, Rollback}
use Rattle.xa_tables.specs.declared.states.BranchState.TheVariants.{S2, S3, S4, S5}
use Rattle.xa_xid.specs.declared.xid.Xid.{Xid}
use Rattle.xa_branch.specs.Names.{same}
use Rattle.xa_assoc.specs.Answers.{state_at}
use Rattle.xa_branch.specs.Decisions.{decided_as}
use Rattle.protocol.specs.declared.names.Outcome.{Outcome}
use Rattle.protocol.specs.declared.names.Outcome.TheVariants.{Committed, Aborted}
use Rattle.protocol.specs.declared.messages.Op.{Op}
use Rattle.protocol.specs.declared.records.LogRecord.{LogRecord}
use Rattle.protocol.specs.declared.records.Write.{Write}
use Rattle.protocol.specs.declared.events.StepError.{StepError}
use Rattle.protocol.specs.declared.events.StepError.TheVariants.{Device, Exhausted, Memory}
use Rattle.log_records.specs.Sights.{Breaks}
use Rattle.process_state.specs.States.{wrote}
use Rattle.resource_manager.specs.Sights.{ManagerSight, SameManager, manager_data}
use Rattle.resource_manager.specs.Data.{ReleasesHolds, held_with}
use Rattle.resource_manager.specs.Deciding.{decision_writes}
use Rattle.resource_manager.specs.Ends.{decided_behind, left_with, logged_under, row_for, state_of, written_for}
pub use Rattle.resource_manager.specs.Idle.{BeginsBranch, BranchComes, HasBegun, Idles, IsIdle, IsQuiet, KeepsManager, OperatesIf, WorksIdle, starts}
use Rattle.protocol.specs.declared.standings.Vote.{Vote}
use Rattle.protocol.specs.declared.standings.Vote.TheVariants.{Yes, Read}

-- a branch did an operation, or was refused it and can only be rolled back
abbrev pub BranchWorks : ManagerSight → ManagerSight → Xid → Op → Bool → Type 0
BranchWorks old new x op done = WorksIdle old new x op done

-- a call made its row of a branch, and its record is in the log; of a branch that an operator decided the
-- first outcome is noted
pub record FinishesWork (old new : ManagerSight) (x : Xid) (c : Call) : Type 0 where
  pub comes : BranchComes old new x (row_for old x c).1
  pub log : new.log ≡ wrote old.log (written_for old x c) (logged_under x (written_for old x c))
  pub own : new.writes x ≡ left_with (row_for old x c).1 (old.writes x)
  pub others : (y : Xid) → same x y ≡ false → new.writes y ≡ old.writes y
  pub held : (k : List ℕ) → new.holders k ≡ held_with (row_for old x c).1 x (old.holders k)
  pub decided : (row_for old x c).1 ≡ S5 → new.decided x ≡ decided_behind c (old.decided x)

-- the call by which a branch learns an outcome
abbrev pub outcome_call : Outcome → Call
outcome_call Committed = Commit
outcome_call Aborted = Rollback

-- a branch in this state can be rolled back by a subordinate
abbrev pub can_roll_back : BranchState → Bool
can_roll_back S2 = true
can_roll_back S3 = true
can_roll_back S4 = true
can_roll_back S5 = true
can_roll_back _ = false

-- the vote of a branch that is asked to promise: one that wrote nothing has only read
abbrev pub vote_of : List Write → Vote
vote_of [] = Read
vote_of (w ∷ ws) = Yes

-- the device failed under these records, and the branches stay, with what operators decided of them
pub record BreaksUnder (old new : ManagerSight) (ls : List LogRecord) : Type 0 where
  pub log : Breaks (state_of old.log) (state_of new.log) ls
  pub states : (y : Xid) → state_at new.tables y ≡ state_at old.tables y
  pub decided : (y : Xid) → new.decided y ≡ old.decided y
  pub idle : IsIdle new
  pub boot : new.boot ≡ old.boot

-- why a piece of work was not done that writes these records: for memory nothing changed, nor where the
-- manager has met a limit of its own; or the device failed
abbrev pub NotDone : ManagerSight → ManagerSight → List LogRecord → StepError → Type 0
NotDone old new ls Memory = SameManager old new
NotDone old new ls Device = BreaksUnder old new ls
NotDone old new ls Exhausted = SameManager old new × (old.spent ≡ true)
NotDone old new ls e = ⊥

-- why a call did not make its row
abbrev pub NotFinished : ManagerSight → ManagerSight → Xid → Call → StepError → Type 0
NotFinished old new x c e = NotDone old new (logged_under x (written_for old x c)) e

-- Decisions.

-- an operator decided a prepared branch: the decision is forced, and the branch has let its writes and its
-- keys go
pub record DecidesWork (old new : ManagerSight) (x : Xid) (o : Outcome) : Type 0 where
  pub comes : BranchComes old new x S5
  pub log : new.log ≡ wrote old.log (decision_writes x o) (logged_under x (decision_writes x o))
  pub releases : ReleasesHolds (manager_data old) (manager_data new) x
  pub decided : new.decided x ≡ decided_as o

-- why a branch was not decided
abbrev pub WorkNotDecided : ManagerSight → ManagerSight → Xid → Outcome → StepError → Type 0
WorkNotDecided old new x o e = NotDone old new (logged_under x (decision_writes x o)) e
