-- Whether a branch can begin: it is not known, and fewer than 1,024 are.
use Rattle.std.proofs.Common.{◌≡◌, ◌≢◌, ◌≤◌, ◌+◌, ◌∙◌, Bool, true, false, List, [], ◌∷◌, Option, Some, inl, inr, refl, sym, ap, arith, length}
use Rattle.std.specs.Prelude.{is_some, is_ok, nat_le, unwrap_or, if◌then◌else◌}
use Rattle.std.specs.List.{AllByRecursion, IsDistinct}
use Rattle.std.specs.Map.{keys_of, lookup, remove_entry}
use Rattle.std.proofs.lemmas.Bool.Decides.{nat_tests}
use Rattle.std.proofs.lemmas.Map.Entries.{length-keys_of}
use Rattle.std.proofs.lemmas.Map.Keys.{IsDistinct-head, IsDistinct-tail}
use Rattle.xa_tables.specs.declared.states.BranchState.{BranchState}
use Rattle.xa_tables.specs.declared.states.BranchState.TheVariants.{S0, S1, S2, S3, S4, S5}
use Rattle.xa_xid.specs.declared.xid.Xid.{Xid}
use Rattle.xa_branch.specs.Branches.{AreBranchesListedOnce, is_known, state_in}
use Rattle.xa_branch.specs.Names.{same}
use Rattle.xa_branch.proofs.Names.{same_flips, same_is, same_refl}
use Rattle.resource_manager.specs.Data.{CanBegin, IsFull, is_begun}
use Rattle.resource_manager.specs.Sights.{ManagerSight, manager_data}
use Rattle.sub_work.specs.Deeds.{IsIdle, starts}
use Rattle.resource_manager.proofs.Idle.{start_by, starts_is}

-- Known branches.

begun_by : (s : BranchState) → s ≢ S0 → is_begun s ≡ true
begun_by S0 n = absurd (n refl)
begun_by S1 n = refl
begun_by S2 n = refl
begun_by S3 n = refl
begun_by S4 n = refl
begun_by S5 n = refl

-- a branch is known where it is listed, since none is listed that is in S0
pub known_is : (bs : List (Xid × BranchState)) (x : Xid) → AllByRecursion (λ e. e.1 ≢ S0) bs
    → is_begun (state_in bs x) ≡ is_known bs x
known_is [] x h = refl
known_is (e ∷ bs) x h = by_test (same x e.0) (known_is bs x h.1)
  where
    by_test : (b : Bool) → is_begun (state_in bs x) ≡ is_known bs x
        → is_begun (unwrap_or (if b then Some e.1 else lookup (same x) bs) S0)
        ≡ is_some (if b then Some e.1 else lookup (same x) bs)
    by_test true rest = begun_by e.1 h.0
    by_test false rest = rest

found_behind : (b : Bool) (s : BranchState) (o : Option BranchState) → is_some o ≡ true
    → is_some (if b then Some s else o) ≡ true
found_behind true s o is = refl
found_behind false s o is = is

found_first : (b : Bool) (s : BranchState) (o : Option BranchState) → b ≡ true
    → is_some (if b then Some s else o) ≡ true
found_first true s o is = refl
found_first false s o is = absurd cc

-- each branch that is listed is known
each_in : (bs : List (Xid × BranchState)) (known : Xid → Bool)
    → ((x : Xid) → is_known bs x ≡ true → known x ≡ true) → AllByRecursion (λ x. known x ≡ true) (keys_of bs)
each_in [] known h = tt
each_in (e ∷ bs) known h = (
  h e.0 (found_first (same e.0 e.0) e.1 (lookup (same e.0) bs) (same_refl e.0)),
  each_in bs known (λ x is. h x (found_behind (same x e.0) e.1 (lookup (same x) bs) is)),
)

-- Different known branches are no more than those that are listed.

other_found : (bs : List (Xid × BranchState)) (x y : Xid) → same x y ≡ false
    → lookup (same y) (remove_entry (same x) bs) ≡ lookup (same y) bs
other_found [] x y apart = refl
other_found (e ∷ bs) x y apart =
    grind (arith, other_found bs x y apart, same_is x e.0, same_flips x y apart)

one_fewer : (bs : List (Xid × BranchState)) (x : Xid) → is_known bs x ≡ true
    → length (remove_entry (same x) bs) + 1 ≡ length bs
one_fewer [] x is = absurd cc
one_fewer (e ∷ bs) x is = by_test (same x e.0) (one_fewer bs x) is
  where
    by_test : (b : Bool) → (is_known bs x ≡ true → length (remove_entry (same x) bs) + 1 ≡ length bs)
        → is_some (if b then Some e.1 else lookup (same x) bs) ≡ true
        → length (if b then bs else e ∷ remove_entry (same x) bs) + 1 ≡ length (e ∷ bs)
    by_test true rest is = omega arith
    by_test false rest is = let n = rest is in omega arith

others_known : (bs : List (Xid × BranchState)) (x : Xid) (ys : List Xid)
    → AllByRecursion (λ y. same x y ≡ false) ys → AllByRecursion (λ y. is_known bs y ≡ true) ys
    → AllByRecursion (λ y. is_known (remove_entry (same x) bs) y ≡ true) ys
others_known bs x [] apart h = tt
others_known bs x (y ∷ ys) apart h =
    (ap is_some (other_found bs x y apart.0) ∙ h.0, others_known bs x ys apart.1 h.1)

pub no_more : (xs : List Xid) (bs : List (Xid × BranchState)) → IsDistinct same xs
    → AllByRecursion (λ x. is_known bs x ≡ true) xs → length xs ≤ length bs
no_more [] bs different h = omega arith
no_more (x ∷ xs) bs different h =
    let rest = no_more xs (remove_entry (same x) bs) (IsDistinct-tail same x xs different)
    (others_known bs x xs (IsDistinct-head same x xs different) h.1) in
    let one = one_fewer bs x h.0 in
    omega arith

each_listed : (bs : List (Xid × BranchState)) (xs : List Xid) → AllByRecursion (λ e. e.1 ≢ S0) bs
    → AllByRecursion (λ x. is_begun (state_in bs x) ≡ true) xs → AllByRecursion (λ x. is_known bs x ≡ true) xs
each_listed bs [] begun h = tt
each_listed bs (x ∷ xs) begun h = (sym (known_is bs x begun) ∙ h.0, each_listed bs xs begun h.1)

-- A start.

module _ (m : ManagerSight) (x : Xid) (idle : IsIdle m)
    (once : AreBranchesListedOnce m.tables.branches.branches) where
  abbrev bs : List (Xid × BranchState)
  bs = m.tables.branches.branches

  full_by : nat_le 1024 (length bs) ≡ true → IsFull (manager_data m).known
  full_by full = record {
    branches = keys_of bs;
    different = once.once;
    each = each_in bs (manager_data m).known (λ y is. known_is bs y once.begun ∙ is);
    many = grind (arith, nat_tests, length-keys_of bs, full);
  }

  room_by : nat_le 1024 (length bs) ≡ false → IsFull (manager_data m).known → ⊥
  room_by full f =
      let most = no_more f.branches bs f.different (each_listed bs f.branches once.begun f.each) in
      let many = f.many in
      grind (arith, nat_tests, full, most, many)

  by_tests : (known full b : Bool) → is_known bs x ≡ known → nat_le 1024 (length bs) ≡ full
      → is_ok (start_by known false full false true) ≡ b → CanBegin (manager_data m) x b
  by_tests true full true is size e = absurd cc
  by_tests true full false is size e = inl (known_is bs x once.begun ∙ is)
  by_tests false true true is size e = absurd cc
  by_tests false true false is size e = inr (full_by size)
  by_tests false false true is size e = (known_is bs x once.begun ∙ is, room_by size)
  by_tests false false false is size e = absurd cc

  -- the branch can begin exactly where its start is let in
  pub can_begin : CanBegin (manager_data m) x (starts m x)
  can_begin = by_tests (is_known bs x) (nat_le 1024 (length bs)) (starts m x) refl refl
      (sym (starts_is m x idle))
