-- Which branches a manager knows after a piece of work.
use Rattle.std.proofs.Common.{◌≡◌, List, ap}
use Rattle.xa_tables.specs.declared.states.BranchState.{BranchState}
use Rattle.xa_xid.specs.declared.xid.Xid.{Xid}
use Rattle.xa_branch.specs.Branches.{state_in}
use Rattle.xa_assoc.specs.Answers.{SameStates}
use Rattle.resource_manager.specs.Data.{KnowsBranch, StayKnown, is_begun}
use Rattle.resource_manager.specs.Sights.{ManagerSight, manager_data}
pub use Rattle.resource_manager.proofs.Idle.{stays_known}
use Rattle.sub_work.specs.Deeds.{BranchComes, KeepsManager}

-- the branch that came to a state is known by that
pub comes_known : (old new : ManagerSight) (x : Xid) (s : BranchState) → BranchComes old new x s
    → KnowsBranch (manager_data old) (manager_data new) x (is_begun s)
comes_known old new x s c = record {
  own = ap is_begun c.own;
  others = λ y apart. ap is_begun (c.others y apart);
}

listed_known : (old new : List (Xid × BranchState)) (y : Xid) → new ≡ old
    → is_begun (state_in new y) ≡ is_begun (state_in old y)
listed_known old new y e = ap (λ (bs : List (Xid × BranchState)). is_begun (state_in bs y)) e

pub same_known : (old new : ManagerSight) → SameStates old.tables new.tables
    → StayKnown (manager_data old) (manager_data new)
same_known old new same y = listed_known old.tables.branches.branches new.tables.branches.branches y
    same.branches.branches

pub kept_known : (old new : ManagerSight) → KeepsManager old new
    → StayKnown (manager_data old) (manager_data new)
kept_known old new keeps y =
    listed_known old.tables.branches.branches new.tables.branches.branches y keeps.branches
