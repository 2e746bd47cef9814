-- What holds of the state of each known branch, once one of them moves.
use Rattle.std.proofs.Common.{◌≡◌, ◌≢◌, Bool, true, false, cond, List, [], ◌∷◌, ◌++◌, Option, Some, None, refl, ap}
use Rattle.std.specs.Prelude.{is_some, if◌then◌else◌}
use Rattle.std.specs.Map.{lookup, remove_entry}
use Rattle.indexmap.specs.IndexMap.{insert_entry}
use Rattle.xa_tables.specs.declared.states.BranchState.{BranchState}
use Rattle.xa_tables.specs.declared.states.BranchState.TheVariants.{S0, S1, S2, S3, S4, S5}
use Rattle.xa_xid.specs.declared.xid.Xid.{Xid}
use Rattle.xa_branch.specs.Branches.{is_known, placed}
use Rattle.xa_branch.specs.Names.{same}

-- each known branch is in such a state
abbrev pub AllIn : (BranchState → Type 0) → List (Xid × BranchState) → Type 0
AllIn P [] = Unit {0}
AllIn P (e ∷ es) = P e.1 × AllIn P es

-- a branch is not known, or in such a state
abbrev pub NoneOr : (BranchState → Type 0) → Option BranchState → Type 0
NoneOr P None = Unit {0}
NoneOr P (Some s) = P s

-- a branch is known no longer, or in such a state
abbrev pub GoneOr : (BranchState → Type 0) → BranchState → Type 0
GoneOr P S0 = Unit {0}
GoneOr P s = P s

module _ (P : BranchState → Type 0) where
  found_by : (b : Bool) (s : BranchState) (o : Option BranchState) → P s → NoneOr P o
      → NoneOr P (cond b (Some s) o)
  found_by true s o h k = h
  found_by false s o h k = k

  pub found : (bs : List (Xid × BranchState)) (x : Xid) → AllIn P bs → NoneOr P (lookup (same x) bs)
  found [] x h = tt
  found (e ∷ bs) x h = found_by (same x e.0) e.1 (lookup (same x) bs) h.0 (found bs x h.1)

  without : (b : Bool) (es more : List (Xid × BranchState)) (e : Xid × BranchState) → P e.1 → AllIn P es
      → AllIn P more → AllIn P (cond b es (e ∷ more))
  without true es more e h k l = k
  without false es more e h k l = (h, l)

  removed : (bs : List (Xid × BranchState)) (x : Xid) → AllIn P bs → AllIn P (remove_entry (same x) bs)
  removed [] x h = tt
  removed (e ∷ bs) x h = without (same x e.0) bs (remove_entry (same x) bs) e h.0 h.1 (removed bs x h.1)

  within : (b : Bool) (es more : List (Xid × BranchState)) (e : Xid × BranchState) (s : BranchState) → P e.1
      → P s → AllIn P es → AllIn P more
      → AllIn P (if b then (e.0, s) ∷ es else e ∷ more)
  within true es more e s h w k l = (w, k)
  within false es more e s h w k l = (h, l)

  inserted : (bs : List (Xid × BranchState)) (x : Xid) (s : BranchState) → P s → AllIn P bs
      → AllIn P (insert_entry same bs x s)
  inserted [] x s w h = (w, tt)
  inserted (e ∷ bs) x s w h = within (same x e.0) bs (insert_entry same bs x s) e s h.0
      w h.1 (inserted bs x s w h.1)

  pub all_placed : (bs : List (Xid × BranchState)) (x : Xid) (s : BranchState) → GoneOr P s
      → AllIn P bs → AllIn P (placed bs x s)
  all_placed bs x S0 w h = removed bs x h
  all_placed bs x S1 w h = inserted bs x S1 w h
  all_placed bs x S2 w h = inserted bs x S2 w h
  all_placed bs x S3 w h = inserted bs x S3 w h
  all_placed bs x S4 w h = inserted bs x S4 w h
  all_placed bs x S5 w h = inserted bs x S5 w h

last_by : (b : Bool) (e : Xid × BranchState) (bs more : List (Xid × BranchState)) (x : Xid)
    (s : BranchState) (o : Option BranchState)
    → is_some (cond b (Some e.1) o) ≡ false → (is_some o ≡ false → more ≡ bs ++ (x, s) ∷ [])
    → (if b then (e.0, s) ∷ bs else e ∷ more) ≡ e ∷ bs ++ (x, s) ∷ []
last_by true e bs more x s o h rest = absurd cc
last_by false e bs more x s o h rest = ap (λ l. e ∷ l) (rest h)

goes_last : (bs : List (Xid × BranchState)) (x : Xid) (s : BranchState) → is_known bs x ≡ false
    → insert_entry same bs x s ≡ bs ++ (x, s) ∷ []
goes_last [] x s h = refl
goes_last (e ∷ bs) x s h = last_by (same x e.0) e bs (insert_entry same bs x s) x s
    (lookup (same x) bs) h (goes_last bs x s)

-- a branch that is not known goes after all others
pub placed_last : (bs : List (Xid × BranchState)) (x : Xid) (s : BranchState) → s ≢ S0 → is_known bs x ≡ false
    → placed bs x s ≡ bs ++ (x, s) ∷ []
placed_last bs x S0 n h = absurd (n refl)
placed_last bs x S1 n h = goes_last bs x S1 h
placed_last bs x S2 n h = goes_last bs x S2 h
placed_last bs x S3 n h = goes_last bs x S3 h
placed_last bs x S4 n h = goes_last bs x S4 h
placed_last bs x S5 n h = goes_last bs x S5 h
