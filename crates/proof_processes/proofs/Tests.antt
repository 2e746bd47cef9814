-- Tests over lists of records.
use Rattle.std.proofs.Common.{◌≡◌, ◌∙◌, ◌||◌, ◌&&◌, ◌⊎◌, inl, inr, ℕ, Bool, true, false, List, [], ◌∷◌, ◌++◌, take, drop, refl, sym, ap, arith}
use Rattle.std.specs.Prelude.{reverse, not}
use Rattle.std.proofs.lemmas.List.{take-append-drop}
use Rattle.std.proofs.lemmas.List.Folds.{list_any-append}
use Rattle.std.proofs.lemmas.List.Sorted.{IsPermutation-reverse, list_any-IsPermutation}
use Rattle.protocol.specs.declared.names.Case.{Case}
use Rattle.protocol.specs.declared.records.Record.{Record}
use Rattle.protocol.specs.Records.{has}
use Rattle.protocol.specs.Names.{same_case}
use Rattle.protocol.specs.NameLaws.{same_case_tells}
use Rattle.protocol.specs.Outcomes.{has_last}

pub either : (a b : Bool) → (a || b) ≡ true → (a ≡ true) ⊎ (b ≡ true)
either a b e = grind arith

pub left : (a b : Bool) → a ≡ true → (a || b) ≡ true
left a b e = grind arith

pub right : (a b : Bool) → b ≡ true → (a || b) ≡ true
right a b e = grind arith

pub neither : (a b : Bool) → a ≡ false → b ≡ false → (a || b) ≡ false
neither a b e f = grind arith

pub both : (a b : Bool) → (a && b) ≡ true → (a ≡ true) × (b ≡ true)
both true true e = (refl, refl)
both true false e = absurd (cc)
both false b e = absurd (cc)

pub first_false : (a b : Bool) → (a || b) ≡ false → a ≡ false
first_false a b e = grind arith

pub second_false : (a b : Bool) → (a || b) ≡ false → b ≡ false
second_false a b e = grind arith

pub and : (a b : Bool) → a ≡ true → b ≡ true → (a && b) ≡ true
and a b e f = grind arith

pub has-append : (q : Record → Bool) (xs ys : List Record) → has q (xs ++ ys) ≡ (has q xs || has q ys)
unfolding has
has-append q xs ys = list_any-append q xs ys

pub has-cons : (q : Record → Bool) (x : Record) (xs : List Record) → has q (x ∷ xs) ≡ (q x || has q xs)
unfolding has
has-cons q x xs = refl

pub has-nil : (q : Record → Bool) → has q [] ≡ false
unfolding has
has-nil q = refl

pub has-reverse : (q : Record → Bool) (xs : List Record) → has q (reverse xs) ≡ has q xs
unfolding has
has-reverse q xs = sym (list_any-IsPermutation q xs (reverse xs) (IsPermutation-reverse xs))

module _ (q : Record → Bool) where
  pub in_either : (xs ys : List Record) → has q (xs ++ ys) ≡ true → (has q xs ≡ true) ⊎ (has q ys ≡ true)
  in_either xs ys e = either (has q xs) (has q ys) (sym (has-append q xs ys) ∙ e)

  pub in_first : (xs ys : List Record) → has q xs ≡ true → has q (xs ++ ys) ≡ true
  in_first xs ys e = has-append q xs ys ∙ left (has q xs) (has q ys) e

  pub in_second : (xs ys : List Record) → has q ys ≡ true → has q (xs ++ ys) ≡ true
  in_second xs ys e = has-append q xs ys ∙ right (has q xs) (has q ys) e

  pub in_front : (k : ℕ) (xs : List Record) → has q (take k xs) ≡ true → has q xs ≡ true
  in_front k xs e = ap (has q) (sym (take-append-drop k xs)) ∙ in_first (take k xs) (drop k xs) e

  pub in_reverse : (xs : List Record) → has q xs ≡ true → has q (reverse xs) ≡ true
  in_reverse xs e = has-reverse q xs ∙ e

  pub in_none : (xs ys : List Record) → has q xs ≡ false → has q ys ≡ false → has q (xs ++ ys) ≡ false
  in_none xs ys e f = has-append q xs ys ∙ neither (has q xs) (has q ys) e f

  pub not_both : {A : Type 0} → (b : Bool) → b ≡ true → b ≡ false → A
  not_both b e f = absurd (cc)

  pub front_none : (k : ℕ) (xs : List Record) → has q xs ≡ false → has q (take k xs) ≡ false
  front_none k xs e = by_front (has q (take k xs)) refl
    where
      by_front : (b : Bool) → has q (take k xs) ≡ b → has q (take k xs) ≡ false
      by_front true f = not_both (has q xs) (in_front k xs f) e
      by_front false f = f

-- two cases that are one
pub case_is : (c d : Case) → same_case c d ≡ true → c ≡ d
case_is c d e = elim (same_case_tells c d) [ inl t ↦ t.1 | inr f ↦ absurd (let g = f.0 in cc) ]

-- a record that passes the first test stands with none after it that passes the second, or there is one
-- that does
now_or : (a b c l : Bool) → (a || b) ≡ true → c ≡ false → (b ≡ true → l ≡ true) → ((a && not c) || l) ≡ true
now_or true b c l e f g = rw f refl
now_or false b c l e f g = rw (g e) (one c)
  where
    one : (c : Bool) → ((false && not c) || true) ≡ true
    one true = refl
    one false = refl

of_rest : (l c : Bool) → (l ≡ true) ⊎ (c ≡ true) → c ≡ false → l ≡ true
of_rest l c (inl e) f = e
of_rest l c (inr g) f = absurd (cc)

by_rest : (a b c s l : Bool) → (a || b) ≡ true → (b ≡ true → (l ≡ true) ⊎ (c ≡ true))
    → (((a && not c) || l) ≡ true) ⊎ ((s || c) ≡ true)
by_rest a b true s l e g = inr (right s true refl)
by_rest a b false s l e g = inl (now_or a b false l e refl (λ h. of_rest l false (g h) refl))

pub last_or : (q r : Record → Bool) (xs : List Record) → has q xs ≡ true
    → (has_last q r xs ≡ true) ⊎ (has r xs ≡ true)
unfolding has has_last
last_or q r [] e = absurd (cc)
last_or q r (x ∷ xs) e = by_rest (q x) (has q xs) (has r xs) (r x) (has_last q r xs) e (last_or q r xs)
