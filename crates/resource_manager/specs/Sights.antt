-- What a process sees of the resource manager that it drives, whichever it is.
use Rattle.std.specs.Prelude.{◌≡◌, ℕ, Bool, true, false, Option, List}
use Rattle.xa_xid.specs.declared.xid.Xid.{Xid}
use Rattle.xa_assoc.specs.declared.states.States.{States}
use Rattle.xa_assoc.specs.Answers.{SameStates, state_at}
use Rattle.xa_assoc.specs.declared.errors.WorkError.{WorkError}
use Rattle.xa_branch.specs.declared.decision.Decision.{Decision}
use Rattle.protocol.specs.declared.messages.Op.{Op}
use Rattle.protocol.specs.declared.records.Write.{Write}
use Rattle.log_records.specs.Sights.{LogSight}
use Rattle.resource_manager.specs.Data.{Holdings, ManagerData, is_begun, obstacle_in}

-- The tables of its calls; its log; how often it opened; whether a limit of its own is met, so that it may
-- refuse to finish a branch; what each branch has written that is at work or prepared, in order of each key's
-- first write; who holds each key; and what an operator decided of each branch in S5, with what it was told
-- since (of any other branch this says nothing).
pub record ManagerSight : Type 0 where
  pub tables : States
  pub log : LogSight
  pub boot : ℕ
  pub spent : Bool
  pub writes : Xid → List Write
  pub holders : Holdings
  pub decided : Xid → Decision

-- its data
abbrev pub manager_data : ManagerSight → ManagerData
manager_data m = record {
  writes = m.writes;
  holders = m.holders;
  known = λ x. is_begun (state_at m.tables x);
}

-- why its data are in the way of an operation of a branch: what the branch has written and the holders of the
-- key alone say it
abbrev pub obstacle : ManagerSight → Xid → Op → Option WorkError
obstacle m x op = obstacle_in (manager_data m) x op

-- the data stay as they are, and what each branch has written, and what operators decided
pub record SameData (old new : ManagerSight) : Type 0 where
  pub writes : (x : Xid) → new.writes x ≡ old.writes x
  pub holders : (k : List ℕ) → new.holders k ≡ old.holders k
  pub decided : (x : Xid) → new.decided x ≡ old.decided x

-- nothing changes but room
pub record SameManager (old new : ManagerSight) : Type 0 where
  pub tables : SameStates old.tables new.tables
  pub log : new.log ≡ old.log
  pub boot : new.boot ≡ old.boot
  pub spent : new.spent ≡ old.spent
  pub rest : SameData old new

-- a call that concerns the tables alone: a failed manager refuses it, and else it moves them so; nothing else
-- changes
pub record ManagerCalls (old new : ManagerSight) (refuses : Type 0)
    (Moves : States → States → Type 0) : Type 0 where
  pub failed : old.log.failed ≡ true → refuses × SameManager old new
  pub works : old.log.failed ≡ false → Moves old.tables new.tables
  pub log : new.log ≡ old.log
  pub boot : new.boot ≡ old.boot
  pub spent : new.spent ≡ old.spent
  pub rest : SameData old new
