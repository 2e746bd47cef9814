-- One branch fewer is suspended for migration.
use Rattle.std.proofs.Common.{◌≡◌, ℕ, ◌+◌, ◌<◌, Bool, true, false, Some, None, List, [], ◌∷◌, ◌++◌, length, get_or, refl, ap, sym, subst, ◌∙◌, inl, inr, arith}
use Rattle.std.specs.Prelude.{◌==◌, remove, if◌then◌else◌, nat_lt}
use Rattle.std.specs.List.{list_any, AllByRecursion, position_or_len}
use Rattle.std.proofs.lemmas.Bool.{cases_lt, cond-true, eq-eqb, eqb-true, false≢true, lt-ltb, ne_eqb}
use Rattle.std.proofs.lemmas.List.Edits.{get_or-remove_above, get_or-remove_below, length-remove}
use Rattle.std.proofs.lemmas.List.Elements.{All-from_get_or, All-from_recursion, All-get_or, recursion_from_All}
use Rattle.std.proofs.lemmas.List.Folds.{list_any_none}
use Rattle.std.proofs.lemmas.List.Sums.{fails_before_first, passes_at_first, sum_by-append, sum_by-remove}
use Rattle.xa_xid.specs.declared.xid.Xid.{Xid}
use Rattle.judge_state.specs.Moves.{without_first, without_place}
use Rattle.proof_judged_deeds.specs.Names.{NameNumbers}
use Rattle.proof_judged_deeds.proofs.Lists.{all_append}
use Rattle.proof_judged_deeds.proofs.Links.{Count, IsNamed}

-- what a list has of this, it has at its first place
some_place : (x : ℕ) (ms : List ℕ) → list_any (λ m. m == x) ms ≡ true
    → position_or_len (λ m. m == x) ms < length ms
some_place x ms h = elim (cases_lt (position_or_len (λ m. m == x) ms) (length ms)) [
  | inl lt ↦ lt
  | inr le ↦ absurd (false≢true (sym (list_any_none (λ m. m == x) ms
      (λ k d l. fails_before_first (λ m. m == x) ms k d (omega arith))) ∙ h))
]

one_by : (b : Bool) → b ≡ true → ◌≡◌ {A = ℕ} (if b then 1 else 0) 1
one_by b h = rw h refl

zero_by : (b : Bool) → b ≡ false → ◌≡◌ {A = ℕ} (if b then 1 else 0) 0
zero_by b h = rw h refl

all_removed : (P : ℕ → Type 0) (ms : List ℕ) (i d : ℕ) → i < length ms → AllByRecursion P ms
    → AllByRecursion P (remove ms i)
all_removed P ms i d lt all =
    let every = All-from_recursion P ms all in
    let long = length-remove ms i lt in
    recursion_from_All P (remove ms i) (All-from_get_or P (remove ms i) d (λ k l. elim (cases_lt k i) [
      | inl below ↦ subst P (sym (get_or-remove_below ms i d k below lt))
          (All-get_or P ms k d (omega arith) every)
      | inr above ↦ subst P (sym (get_or-remove_above ms i d k above lt))
          (All-get_or P ms (k + 1) d (omega arith) every)
    ]))

-- one that is picked up is counted once less
pub picked_count : (n : NameNumbers) (x : Xid) (ms : List ℕ) → list_any (λ m. m == n.xid x) ms ≡ true
    → AllByRecursion (IsNamed n) ms → Count n x ms (without_first (n.xid x) ms) 1 0
picked_count n x ms some named =
    let k = n.xid x in
    let i = position_or_len (λ m. m == n.xid x) ms in
    let lt = some_place (n.xid x) ms some in
    let there : without_first (n.xid x) ms ≡ remove ms (position_or_len (λ m. m == n.xid x) ms) =
    ap (λ o. without_place ms o) (cond-true (nat_lt (position_or_len (λ m. m == n.xid x) ms) (length ms))
    (Some (position_or_len (λ m. m == n.xid x) ms)) None
    (lt-ltb (position_or_len (λ m. m == n.xid x) ms) (length ms) lt)) in
    let here : (get_or ms (position_or_len (λ m. m == n.xid x) ms) 0 == n.xid x) ≡ true =
    passes_at_first (λ m. m == n.xid x) ms 0 lt in
    subst (λ (ks : List ℕ). Count n x ms ks 1 0) (sym there) (record {
      own = let s = sum_by-remove (λ (m : ℕ). if m == n.xid x then 1 else 0) ms i 0 lt in
          let o = one_by (get_or ms (position_or_len (λ m. m == n.xid x) ms) 0 == n.xid x) here
          in omega arith;
      others = λ y apart. let s = sum_by-remove (λ (m : ℕ). if m == y then 1 else 0) ms i 0 lt in
          let z = zero_by (get_or ms (position_or_len (λ m. m == n.xid x) ms) 0 == y)
          (ne_eqb (get_or ms (position_or_len (λ m. m == n.xid x) ms) 0) y
          (λ e. apart (sym (eqb-true (get_or ms (position_or_len (λ m. m == n.xid x) ms) 0) (n.xid x) here)
          ∙ e))) in
          omega arith;
      named = all_removed (IsNamed n) ms i 0 lt named;
    })

-- one more is suspended for migration
pub moved_count : (n : NameNumbers) (x : Xid) (ms : List ℕ) → AllByRecursion (IsNamed n) ms
    → Count n x ms (ms ++ n.xid x ∷ []) 0 1
moved_count n x ms named = record {
  own = let s = sum_by-append (λ (m : ℕ). if m == n.xid x then 1 else 0) ms (n.xid x ∷ []) in
      let o = one_by (n.xid x == n.xid x) (eq-eqb (n.xid x) (n.xid x) refl) in omega arith;
  others = λ y apart. let s = sum_by-append (λ (m : ℕ). if m == y then 1 else 0) ms (n.xid x ∷ []) in
      let z = zero_by (n.xid x == y) (ne_eqb (n.xid x) y apart) in omega arith;
  named = all_append (IsNamed n) ms (n.xid x ∷ []) named ((x, refl), tt);
}
