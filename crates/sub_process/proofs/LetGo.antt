-- What a call that ends a branch leaves of the data, or one that comes after an operator's decision.
use Rattle.std.proofs.Common.{◌≡◌, ◌∙◌, Bool, List, [], refl, sym, ap, subst}
use Rattle.xa_tables.specs.declared.call.Call.{Call}
use Rattle.xa_tables.specs.declared.states.BranchState.{BranchState}
use Rattle.xa_tables.specs.declared.states.BranchState.TheVariants.{S0, S5}
use Rattle.xa_xid.specs.declared.xid.Xid.{Xid}
use Rattle.xa_assoc.specs.Answers.{state_at}
use Rattle.key_lists.specs.declared.holders.Holder.{Holder}
use Rattle.key_lists.specs.Holders.{without}
use Rattle.resource_manager.specs.Data
use Rattle.resource_manager.specs.Data.{KnowsBranch, held_with, is_begun}
use Rattle.resource_manager.specs.Ends.{left_with, row_for}
use Rattle.resource_manager.specs.Sights.{ManagerSight, manager_data}
use Rattle.sub_work.specs.Deeds.{FinishesWork}
use Rattle.sub_work.proofs.Known.{comes_known, stays_known}

-- a branch that is ended, or that an operator decided, lets its writes and its keys go
lets_go : (old new : ManagerSight) (x : Xid) (call : Call) (to : BranchState) → FinishesWork old new x call
    → (row_for old x call).1 ≡ to → left_with to (old.writes x) ≡ []
    → ((hs : List Holder) → held_with to x hs ≡ without hs x)
    → Data.LetsHoldsGo (manager_data old) (manager_data new) x
lets_go old new x call to f is none free = record {
  wrote = record {
    own = f.own ∙ ap (λ (q : BranchState). left_with q (old.writes x)) is ∙ none;
    others = f.others;
  };
  held = λ k. f.held k ∙ ap (λ (q : BranchState). held_with q x (old.holders k)) is ∙ free (old.holders k);
}

pub ended_data : (old new : ManagerSight) (x : Xid) (call : Call) → FinishesWork old new x call
    → (row_for old x call).1 ≡ S0 → Data.Ends (manager_data old) (manager_data new) x
ended_data old new x call f is = record {
  lets_go = lets_go old new x call S0 f is refl (λ hs. refl);
  known = subst (λ (b : Bool). KnowsBranch (manager_data old) (manager_data new) x b) (ap is_begun is)
      (comes_known old new x (row_for old x call).1 f.comes);
}

pub decided_data : (old new : ManagerSight) (x : Xid) (call : Call) → FinishesWork old new x call
    → state_at old.tables x ≡ S5 → (row_for old x call).1 ≡ S5
    → Data.ReleasesHolds (manager_data old) (manager_data new) x
decided_data old new x call f was is = record {
  lets_go = lets_go old new x call S5 f is refl (λ hs. refl);
  known = stays_known old new x (row_for old x call).1 f.comes (ap is_begun was ∙ sym (ap is_begun is));
}
