-- No known branch is in S0, once one of them moves.
use Rattle.std.proofs.Common.{◌≢◌, ℕ, zero, suc, Bool, true, false, List, [], ◌∷◌}
use Rattle.std.specs.Prelude.{remove, if◌then◌else◌}
use Rattle.std.specs.List.{AllByRecursion}
use Rattle.indexmap.specs.IndexMap.{insert_entry, set_value_at}
use Rattle.xa_tables.specs.declared.states.BranchState.{BranchState}
use Rattle.xa_tables.specs.declared.states.BranchState.TheVariants.{S0}
use Rattle.xa_xid.specs.declared.xid.Xid.{Xid}
use Rattle.xa_branch.specs.Names.{same}

-- each of these is in another state
abbrev pub AreBegun : List (Xid × BranchState) → Type 0
AreBegun bs = AllByRecursion (λ e. e.1 ≢ S0) bs

within : (b : Bool) (es more : List (Xid × BranchState)) (e : Xid × BranchState) (s : BranchState) → s ≢ S0
    → e.1 ≢ S0 → AreBegun es → AreBegun more → AreBegun (if b then (e.0, s) ∷ es else e ∷ more)
within true es more e s w h k l = (w, k)
within false es more e s w h k l = (h, l)

-- a branch comes to another state, or goes last
pub inserted : (bs : List (Xid × BranchState)) (x : Xid) (s : BranchState) → s ≢ S0 → AreBegun bs
    → AreBegun (insert_entry same bs x s)
inserted [] x s w h = (w, tt)
inserted (e ∷ bs) x s w h =
    within (same x e.0) bs (insert_entry same bs x s) e s w h.0 h.1 (inserted bs x s w h.1)

-- the branch at an index comes to another state
pub written : (bs : List (Xid × BranchState)) (i : ℕ) (s : BranchState) → s ≢ S0 → AreBegun bs
    → AreBegun (set_value_at bs i s)
written [] i s w h = tt
written (e ∷ bs) zero s w h = (w, h.1)
written (e ∷ bs) (suc i) s w h = (h.0, written bs i s w h.1)

-- the branch at an index goes
pub gone : (bs : List (Xid × BranchState)) (i : ℕ) → AreBegun bs → AreBegun (remove bs i)
gone [] zero h = tt
gone [] (suc i) h = tt
gone (e ∷ bs) zero h = h.1
gone (e ∷ bs) (suc i) h = (h.0, gone bs i h.1)
