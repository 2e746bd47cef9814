-- Whole pieces of work at a manager, between which no thread is at work: a branch begins and is left idle, or
-- an idle branch does an operation.
use Rattle.std.specs.Prelude.{◌≡◌, Bool, true, false, is_none, is_ok, if◌then◌else◌, []}
use Rattle.xa_tables.specs.declared.states.InitState.TheVariants.{R1}
use Rattle.xa_tables.specs.declared.states.BranchState.{BranchState}
use Rattle.xa_tables.specs.declared.states.BranchState.TheVariants.{S2, S4}
use Rattle.xa_xid.specs.declared.xid.Xid.{Xid}
use Rattle.xa_branch.specs.Names.{same}
use Rattle.xa_assoc.specs.Associations.{AssocList, moved_of}
use Rattle.xa_assoc.specs.Answers.{start_reaction, state_at}
use Rattle.protocol.specs.declared.messages.Op.{Op}
use Rattle.resource_manager.specs.Data.{ManagerData, Operates, DataRests}
use Rattle.resource_manager.specs.Ends.{OthersStayDecided}
use Rattle.resource_manager.specs.Sights.{ManagerSight, SameData, SameManager, manager_data, obstacle}

-- no thread is associated with a branch
pub record IsQuiet (a : AssocList) : Type 0 where
  pub holders : a.holders ≡ []
  pub seats : a.seats ≡ []
  pub moved : (x : Xid) → moved_of a x ≡ 0

-- a manager between two pieces of work: it is open, and no thread is at work
pub record IsIdle (m : ManagerSight) : Type 0 where
  pub opened : m.tables.init ≡ R1
  pub quiet : IsQuiet m.tables.associations

-- one branch came to a state, and no other moved, nor what an operator decided of another
pub record BranchComes (old new : ManagerSight) (x : Xid) (s : BranchState) : Type 0 where
  pub own : state_at new.tables x ≡ s
  pub others : (y : Xid) → same x y ≡ false → state_at new.tables y ≡ state_at old.tables y
  pub others_decided : OthersStayDecided old new x
  pub idle : IsIdle new
  pub boot : new.boot ≡ old.boot
  pub form : new.log.form ≡ old.log.form

-- but for its log, a manager between two pieces of work is as it was: which branches it knows and their
-- states, what each has written, who holds which key, what operators decided, and whether a limit of its own
-- is met
pub record KeepsManager (old new : ManagerSight) : Type 0 where
  pub branches : new.tables.branches.branches ≡ old.tables.branches.branches
  pub spent : new.spent ≡ old.spent
  pub rest : SameData old new

-- Work.

-- a start of a branch, which is then left idle, is answered by XA_OK
abbrev pub starts : ManagerSight → Xid → Bool
starts m x = is_ok (start_reaction m.tables 0 x)

-- a branch began, and wrote nothing
pub record BeginsBranch (old new : ManagerSight) (x : Xid) : Type 0 where
  pub comes : BranchComes old new x S2
  pub log : new.log ≡ old.log
  pub rest : SameData old new

-- whether a branch began; one that did not changed nothing
abbrev pub HasBegun : ManagerSight → ManagerSight → Xid → Bool → Type 0
HasBegun old new x true = (starts old x ≡ true) × BeginsBranch old new x
HasBegun old new x false = (starts old x ≡ false) × SameManager old new

-- what an operation leaves that was done, or that was refused
abbrev pub OperatesIf : Bool → ManagerData → ManagerData → Xid → Op → Type 0
OperatesIf true old new x op = Operates old new x op
OperatesIf false old new x op = DataRests old new

-- a branch did an operation, or was refused it and can only be rolled back
pub record WorksIdle (old new : ManagerSight) (x : Xid) (op : Op) (done : Bool) : Type 0 where
  pub allowed : is_none (obstacle old x op) ≡ done
  pub comes : BranchComes old new x (if done then S2 else S4)
  pub log : new.log ≡ old.log
  pub operates : OperatesIf done (manager_data old) (manager_data new) x op

-- an operation that wanted memory: the branch is idle as before, and the manager as it was
pub record Idles (old new : ManagerSight) (x : Xid) : Type 0 where
  pub comes : BranchComes old new x S2
  pub log : new.log ≡ old.log
  pub kept : KeepsManager old new
