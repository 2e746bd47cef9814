-- The work of a thread in the branch that it is active in.
use Rattle.std.specs.Prelude.{◌≡◌, ℕ, false, if◌then◌else◌, Option, Some, None}
use Rattle.xa_tables.specs.declared.states.BranchState.{BranchState}
use Rattle.xa_tables.specs.declared.states.BranchState.TheVariants.{S1, S4}
use Rattle.xa_xid.specs.declared.xid.Xid.{Xid}
use Rattle.xa_assoc.specs.Associations.{active_of}
use Rattle.xa_branch.specs.Names.{same}
use Rattle.xa_assoc.specs.Answers.{SameStates, state_at}
use Rattle.xa_assoc.specs.declared.errors.WorkError.{WorkError}
use Rattle.xa_assoc.specs.declared.errors.WorkError.TheVariants.{Memory, NotAssociated, RmFail, RollbackOnly}
use Rattle.protocol.specs.declared.messages.Op.{Op}
use Rattle.protocol.specs.Plays.{op_writes}
use Rattle.resource_manager.specs.Data.{Locks}
use Rattle.resource_manager.specs.Sights.{ManagerSight, SameManager, obstacle}

-- why a branch in a state may not work; what is in the way of it comes last
abbrev pub state_refusal : BranchState → Option WorkError → Option WorkError
state_refusal S1 obstacle = obstacle
state_refusal S4 obstacle = Some RollbackOnly
state_refusal _ obstacle = Some NotAssociated

-- why a thread may not do an operation, by the branch in which it is active, if there is one
abbrev pub refusal_by : ManagerSight → Op → Option Xid → Option WorkError
refusal_by m op None = Some NotAssociated
refusal_by m op (Some x) = state_refusal (state_at m.tables x) (obstacle m x op)

-- why a thread may not do an operation: the first reason that applies
abbrev pub work_refusal : ManagerSight → ℕ → Op → Option WorkError
work_refusal m t op =
    if m.log.failed then Some RmFail else refusal_by m op (active_of m.tables.associations t)

-- a thread did an operation: the branch that it is active in has written that, and no other branch anything;
-- it holds the key, and every other key is held as it was
pub record ThreadWorks (old new : ManagerSight) (t : ℕ) (op : Op) : Type 0 where
  pub allowed : work_refusal old t op ≡ None
  pub branch : Xid
  pub active : active_of old.tables.associations t ≡ Some branch
  pub own : new.writes branch ≡ op_writes (old.writes branch) op
  pub others : (y : Xid) → same branch y ≡ false → new.writes y ≡ old.writes y
  pub locks : Locks old.holders new.holders branch op
  pub tables : SameStates old.tables new.tables
  pub log : new.log ≡ old.log
  pub boot : new.boot ≡ old.boot
  pub decided : (y : Xid) → new.decided y ≡ old.decided y

-- an operation was refused, and changed nothing; want of memory comes only where nothing else refuses it
abbrev pub WorkRefused : ManagerSight → ManagerSight → ℕ → Op → WorkError → Type 0
WorkRefused old new t op Memory = (work_refusal old t op ≡ None) × SameManager old new
WorkRefused old new t op e = (work_refusal old t op ≡ Some e) × SameManager old new
