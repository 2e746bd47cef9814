-- The records that a process keeps are its own: so are those that a crash leaves of them, and those that a
-- restart appends.
use Rattle.std.proofs.Common.{◌≡◌, ◌&&◌, ℕ, zero, suc, Bool, true, false, if◌then◌else◌, Option, Some, None, List, [], ◌∷◌, ◌++◌, take, refl}
use Rattle.std.proofs.lemmas.Bool.{and_parts}
use Rattle.std.specs.Prelude.{fold}
use Rattle.std.specs.List.{AllByRecursion, flat_map, list_all}
use Rattle.protocol.specs.declared.names.Case.{Case}
use Rattle.protocol.specs.declared.records.Record.{Record}
use Rattle.protocol.specs.declared.standings.Standing.{Standing}
use Rattle.protocol.specs.declared.standings.Standing.TheVariants.{Active, Aborting, Collecting, Committing, Heuristic, Prepared, Unknown}
use Rattle.protocol.specs.LogNames.{is_own_by, is_own_record}
use Rattle.protocol.specs.Nodes.{AtLeaf, AtRoot, Below, Place, Role}
use Rattle.protocol.specs.Records.{cases_in, has_case, record_case, with_case, with_record}
use Rattle.protocol.specs.Restarts.{aborts_collecting, coordinator_reopens, recorded_view, reopens, restart_abort}
use Rattle.protocol.specs.Standings.{CoordinatorView}

-- Lists.

pub both_so : (a b : Bool) → a ≡ true → b ≡ true → (a && b) ≡ true
both_so true b e f = f
both_so false b e f = absurd (cc)

module _ {X : Type 0} (q : X → Bool) where
  pub all_append : (xs ys : List X) → list_all q xs ≡ true → list_all q ys ≡ true
      → list_all q (xs ++ ys) ≡ true
  all_append [] ys e f = f
  all_append (x ∷ xs) ys e f = let both = and_parts _ _ e in both_so _ _ both.0 (all_append xs ys both.1 f)

  pub all_front : (xs ys : List X) → list_all q (xs ++ ys) ≡ true → list_all q xs ≡ true
  all_front [] ys e = refl
  all_front (x ∷ xs) ys e = let both = and_parts _ _ e in both_so _ _ both.0 (all_front xs ys both.1)

  pub all_behind : (xs ys : List X) → list_all q (xs ++ ys) ≡ true → list_all q ys ≡ true
  all_behind [] ys e = e
  all_behind (x ∷ xs) ys e = let both = and_parts _ _ e in all_behind xs ys both.1

  pub all_taken : (k : ℕ) (xs : List X) → list_all q xs ≡ true → list_all q (take k xs) ≡ true
  all_taken zero xs e = refl
  all_taken (suc k) [] e = refl
  all_taken (suc k) (x ∷ xs) e = let both = and_parts _ _ e in both_so _ _ both.0 (all_taken k xs both.1)

-- The cases of records that are the process's own are its own.

module _ (place : Place) where
  abbrev IsOwnCase : Case → Type 0
  IsOwnCase c = is_own_by place (Some c) ≡ true

  one_behind : (cs : List Case) (c : Case) → AllByRecursion IsOwnCase cs → IsOwnCase c
      → AllByRecursion IsOwnCase (cs ++ c ∷ [])
  one_behind [] c all own = (own, tt)
  one_behind (d ∷ cs) c all own = (all.0, one_behind cs c all.1 own)

  own_with : (cs : List Case) (o : Option Case) → AllByRecursion IsOwnCase cs → is_own_by place o ≡ true
      → AllByRecursion IsOwnCase (with_case cs o)
  own_with cs None all own = all
  own_with cs (Some c) all own = by_test (has_case cs c)
    where
      by_test : (b : Bool) → AllByRecursion IsOwnCase (if b then cs else cs ++ c ∷ [])
      by_test true = all
      by_test false = one_behind cs c all own

  own_since : (cs : List Case) (rs : List Record) → AllByRecursion IsOwnCase cs
      → list_all (is_own_record place) rs ≡ true → AllByRecursion IsOwnCase (fold with_record cs rs)
  own_since cs [] all own = all
  own_since cs (r ∷ rs) all own =
      let both = and_parts _ _ own in
      own_since (with_record cs r) rs (own_with cs (record_case r) all both.0) both.1

  own_cases : (rs : List Record) → list_all (is_own_record place) rs ≡ true
      → AllByRecursion IsOwnCase (cases_in rs)
  unfolding cases_in
  own_cases rs own = own_since [] rs tt own

  -- What a restart appends is the process's own.

  own_abort : (c : Case) (v : CoordinatorView) (s : Standing) → IsOwnCase c
      → list_all (is_own_record place) (restart_abort c v s) ≡ true
  own_abort c v Collecting own = both_so _ _ own refl
  own_abort c v Unknown own = refl
  own_abort c v Active own = refl
  own_abort c v Prepared own = refl
  own_abort c v Committing own = refl
  own_abort c v Aborting own = refl
  own_abort c v Heuristic own = refl

  own_aborts : (rs : List Record) (cs : List Case) → AllByRecursion IsOwnCase cs
      → list_all (is_own_record place) (flat_map (aborts_collecting rs) cs) ≡ true
  own_aborts rs [] all = refl
  own_aborts rs (c ∷ cs) all =
      all_append (is_own_record place) (aborts_collecting rs c) (flat_map (aborts_collecting rs) cs)
      (own_abort c (recorded_view rs c) (recorded_view rs c).standing all.0) (own_aborts rs cs all.1)

  own_reopens : (rs : List Record) → list_all (is_own_record place) rs ≡ true
      → list_all (is_own_record place) (coordinator_reopens rs) ≡ true
  own_reopens rs own = own_aborts rs (cases_in rs) (own_cases rs own)

  pub reopens_own : (role : Role) (rs : List Record) → list_all (is_own_record place) rs ≡ true
      → list_all (is_own_record place) (reopens role rs) ≡ true
  reopens_own AtRoot rs own = own_reopens rs own
  reopens_own (Below p) rs own = own_reopens rs own
  reopens_own (AtLeaf p) rs own = refl
