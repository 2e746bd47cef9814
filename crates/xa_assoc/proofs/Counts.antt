-- What the counts are after a seat that is taken or given up, and what they tell.
use Rattle.std.proofs.Common.{◌≡◌, ◌+◌, ◌-◌, ◌≤◌, ◌<◌, ℕ, Bool, true, false, cond, not, ◌||◌, List, [], ◌∷◌, ◌++◌, Option, None, Some, refl, sym, ap, subst, ◌∙◌, arith, length}
use Rattle.std.specs.Prelude.{get_or, nat_eq, nat_lt, position}
use Rattle.std.specs.List.{count_by, list_any, position_or_len, swap_remove}
use Rattle.std.specs.Option.{option_map_or}
use Rattle.std.proofs.lemmas.Bool.Decides.{nat_tests}
use Rattle.std.proofs.lemmas.List.Sums.{sum_by-cons, sum_by_push, sum_by-swap_remove}
use Rattle.std.proofs.lemmas.List.Quantifiers.{position-Some}
use Rattle.indexmap.specs.IndexMap.{swap_remove_by}
use Rattle.xa_assoc.specs.declared.held.Suspended.{Suspended}
use Rattle.xa_assoc.specs.Names.{same_seat}
use Rattle.xa_assoc.specs.Seats.{count_of, holds}
use Rattle.xa_assoc.proofs.Sound.{seat_is}

pub any_counted : (p : Suspended → Bool) (seats : List Suspended)
    → nat_lt 0 (count_by p seats) ≡ list_any p seats
any_counted p [] = refl
any_counted p (s ∷ seats) = ap (nat_lt 0) (sum_by-cons (λ x. cond (p x) 1 0) s seats)
    ∙ by_test (p s) (any_counted p seats)
  where
    by_test : (b : Bool) → nat_lt 0 (count_by p seats) ≡ list_any p seats
        → nat_lt 0 (cond b 1 0 + count_by p seats) ≡ (b || list_any p seats)
    by_test true behind = let some : 0 < 1 + count_by p seats = omega arith in grind (arith, nat_tests, some)
    by_test false behind = ap (nat_lt 0) (omega arith) ∙ behind

pub count_pushed : (p : Suspended → Bool) (seats : List Suspended) (s : Suspended)
    → count_by p (seats ++ s ∷ []) ≡ count_by p seats + cond (p s) 1 0
count_pushed p seats s = sum_by_push (λ x. cond (p x) 1 0) seats s

any_placed : (p : Suspended → Bool) (seats : List Suspended)
    → nat_lt (position_or_len p seats) (length seats) ≡ list_any p seats
any_placed p [] = refl
any_placed p (s ∷ seats) = by_test (p s) (any_placed p seats)
  where
    by_test : (b : Bool) → nat_lt (position_or_len p seats) (length seats) ≡ list_any p seats
        → nat_lt (cond (not b) (1 + position_or_len p seats) 0) (length (s ∷ seats)) ≡ (b || list_any p seats)
    by_test true behind = grind (arith, nat_tests)
    by_test false behind = grind (arith, nat_tests, behind)

pub count_removed : (p : Suspended → Bool) (seats : List Suspended) (s : Suspended) → holds seats s ≡ true
    → count_by p (swap_remove_by (same_seat s) seats) + cond (p s) 1 0 ≡ count_by p seats
count_removed p [] s h = absurd cc
count_removed p (x ∷ seats) s h = by_place (position (same_seat s) (x ∷ seats)) refl
  where
    by_place : (r : Option ℕ) → position (same_seat s) (x ∷ seats) ≡ r
        → count_by p (option_map_or (λ i. swap_remove (x ∷ seats) i x) r (x ∷ seats))
        + cond (p s) 1 0 ≡ count_by p (x ∷ seats)
    by_place None at = absurd (let some : position (same_seat s) (x ∷ seats)
        ≡ Some (position_or_len (same_seat s) (x ∷ seats))
        = ap (λ b. cond b (Some (position_or_len (same_seat s) (x ∷ seats))) None)
        (any_placed (same_seat s) (x ∷ seats) ∙ h) in cc)
    by_place (Some i) at =
        let found = position-Some (same_seat s) (x ∷ seats) i x at in
        let one : s ≡ get_or (x ∷ seats) i x = seat_is s (get_or (x ∷ seats) i x) found.1 in
        subst (λ y. count_by p (swap_remove (x ∷ seats) i x) + cond (p y) 1 0 ≡ count_by p (x ∷ seats))
        (sym one) (sum_by-swap_remove (λ y. cond (p y) 1 0) (x ∷ seats) i x found.0)

-- a seat that is counted was counted
pub counted_one : (p : Suspended → Bool) (seats : List Suspended) (s : Suspended) → holds seats s ≡ true
    → p s ≡ true → 1 ≤ count_by p seats
counted_one p seats s h counts = let rest = count_removed p seats s h in let one : ◌≡◌ {A = ℕ}
    (cond (p s) 1 0) 1 = ap (λ b. cond b 1 0) counts in omega (arith, rest, one)

pub number_is : (a b : ℕ) → nat_eq a b ≡ true → a ≡ b
number_is a b h = grind (arith, nat_tests)

-- Counts after a seat that is taken or given up: that of its own key goes up or down by one, and no other
-- does.
module _ {K : Type 0} (eq : K → K → Bool) (of : Suspended → K) (is : (a b : K) → eq a b ≡ true → a ≡ b) where
  pub counted_more : (seats after : List Suspended) (old new : List (K × ℕ)) (s : Suspended)
      → ((k : K) → count_of eq old k ≡ count_by (λ o. eq (of o) k) seats)
      → after ≡ seats ++ s ∷ []
      → count_of eq new (of s) ≡ count_of eq old (of s) + 1
      → ((k : K) → eq (of s) k ≡ false → count_of eq new k ≡ count_of eq old k)
      → (k : K) → count_of eq new k ≡ count_by (λ o. eq (of o) k) after
  counted_more seats after old new s counted pushed own others k =
      by_test (eq (of s) k) refl ∙ sym (count_pushed (λ o. eq (of o) k) seats s)
      ∙ ap (count_by (λ o. eq (of o) k)) (sym pushed)
    where
      by_test : (b : Bool) → eq (of s) k ≡ b → count_of eq new k
          ≡ count_by (λ o. eq (of o) k) seats + cond b 1 0
      by_test true one =
          subst (λ l. count_of eq new l ≡ count_by (λ o. eq (of o) l) seats + 1) (is (of s) k one)
          (own ∙ ap (λ n. n + 1) (counted (of s)))
      by_test false apart = let same_count = others k apart in let was =
          counted k in omega (arith, same_count, was)

  pub counted_less : (seats after : List Suspended) (old new : List (K × ℕ)) (s : Suspended)
      → ((k : K) → count_of eq old k ≡ count_by (λ o. eq (of o) k) seats)
      → holds seats s ≡ true
      → after ≡ swap_remove_by (same_seat s) seats
      → count_of eq new (of s) ≡ count_of eq old (of s) - 1
      → ((k : K) → eq (of s) k ≡ false → count_of eq new k ≡ count_of eq old k)
      → (k : K) → count_of eq new k ≡ count_by (λ o. eq (of o) k) after
  counted_less seats after old new s counted taken removed own others k =
      by_test (eq (of s) k) refl (count_removed (λ o. eq (of o) k) seats s taken)
      ∙ ap (count_by (λ o. eq (of o) k)) (sym removed)
    where
      gone : List Suspended
      gone = swap_remove_by (same_seat s) seats

      at_own : count_by (λ o. eq (of o) (of s)) gone + 1 ≡ count_by (λ o. eq (of o) (of s)) seats
          → count_of eq new (of s) ≡ count_by (λ o. eq (of o) (of s)) gone
      at_own rest = let was = counted (of s) in omega (arith, own, was, rest)

      by_test : (b : Bool) → eq (of s) k ≡ b
          → count_by (λ o. eq (of o) k) gone + cond b 1 0 ≡ count_by (λ o. eq (of o) k) seats
          → count_of eq new k ≡ count_by (λ o. eq (of o) k) gone
      by_test true one rest =
          subst (λ l. count_by (λ o. eq (of o) l) gone + 1 ≡ count_by (λ o. eq (of o) l) seats
          → count_of eq new l ≡ count_by (λ o. eq (of o) l) gone) (is (of s) k one) at_own rest
      by_test false apart rest = let same_count = others k apart in let was =
          counted k in omega (arith, same_count, was, rest)
