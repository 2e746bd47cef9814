-- Numbers in decimal: what is read is spelled so, and what is spelled so is read.
use Rattle.std.proofs.Common.{◌≡◌, ◌≢◌, ℕ, ◌≤◌, ◌<◌, ◌^◌, true, false, cond, eqb, ltb, List, [], ◌∷◌, length, get_or, Option, Some, None, Result, Ok, Err, refl, ap, sym, ◌∙◌, arith, rules, inl, inr, MatchOption, Bor}
use Rattle.std.specs.List.{list_all}
use Rattle.std.specs.Char.{is_ascii_digit}
use Rattle.std.specs.Result.{result_ok}
use Rattle.std.specs.Fmt.{decimal}
use Rattle.std.specs.Str.Parse.{ParsesUnsigned, digits_value}
use Rattle.std.proofs.lemmas.Bool.{cases_Bool, cases_eq, eqb-true, lt-ltb, le-ltb, cases_lt}
use Rattle.std.proofs.lemmas.Bool.Decides.{nat_tests}
use Rattle.std.proofs.lemmas.Str.Parse.{IsNumeralModel, IsDigitsTest, numerals_by_value, parse_digits}
use Rattle.std.proofs.lemmas.Fmt.{decimal-digits_value, digits_decimal, digits_value-decimal, decimal_nonempty, first_decimal, decimal_digit}
use Rattle.std.proofs.lemmas.List.{nil_from_length}
use Rattle.std.proofs.Common.{ℤ, pos, negsuc, suc}
use Rattle.std.specs.Prelude.{IfSome, IfNone}
use Rattle.std.specs.Int.{w32}
use Rattle.std.specs.Int.RustNames.{FitsSigned}
use Rattle.std.specs.Fmt.{signed_decimal}
use Rattle.spellings.specs.Numerals.{is_numeral, number_at}

digits_test : IsDigitsTest (λ ds. list_all is_ascii_digit ds ≡ true)
digits_test = search rules

pub own : IsNumeralModel (λ ds. list_all is_ascii_digit ds ≡ true) (digits_value 10)
own = numerals_by_value (λ ds. list_all is_ascii_digit ds ≡ true) digits_test

-- what digits without a leading zero are
pub record IsNumeral (bs : List ℕ) : Type 0 where
  pub digits : list_all is_ascii_digit bs ≡ true
  pub some : 0 < length bs
  pub zero_alone : get_or bs 0 0 ≡ 48 → length bs ≡ 1

pub numeral_is : (bs : List ℕ) → is_numeral bs ≡ true → IsNumeral bs
numeral_is [] h = absurd cc
numeral_is (b ∷ bs) h =
    elim (cases_eq b 48) [
      | inl e ↦ (
          let yes : eqb b 48 ≡ true = grind (arith, nat_tests) in
          let alone : eqb (length bs) 0 ≡ true = rw yes at h in
          let none : bs ≡ [] = nil_from_length bs (eqb-true _ _ alone) in
          record { digits = rw (none, e) refl; some = omega arith; zero_alone = λ _. rw none refl })
      | inr e ↦ (
          let no : eqb b 48 ≡ false = grind (arith, nat_tests) in
          record { digits = rw no at h; some = omega arith; zero_alone = λ is. absurd (e is) })
    ]

pub numeral_again : (bs : List ℕ) → IsNumeral bs → is_numeral bs ≡ true
numeral_again [] h = let some = h.some in absurd (omega arith)
numeral_again (b ∷ bs) h =
    elim (cases_eq b 48) [
      | inl e ↦ (
          let yes : eqb b 48 ≡ true = grind (arith, nat_tests) in
          let one = h.zero_alone e in
          let none : length bs ≡ 0 = omega arith in
          rw (yes, none) refl)
      | inr e ↦ (let no : eqb b 48 ≡ false = grind (arith, nat_tests) in rw no h.digits)
    ]

-- the test of the range, after the test of the digits
abbrev within : ℕ → Option ℕ
within n = cond (ltb n (2 ^ 64)) (Some n) None

number_of_numeral : (bs : List ℕ) → is_numeral bs ≡ true → number_at bs ≡ within (digits_value 10 bs)
unfolding number_at
number_of_numeral bs e = rw e refl

within_yes : (n : ℕ) → n < 2 ^ 64 → within n ≡ Some n
within_yes n lt = rw (lt-ltb _ _ lt) refl

within_no : (n : ℕ) → (n < 2 ^ 64 → ⊥) → within n ≡ None
within_no n above = let le : 2 ^ 64 ≤ n = omega arith in rw (le-ltb _ _ le) refl

pub number_is : {E : Type 0} (bs : List ℕ) (r : Result ℕ E) (o : Option ℕ) → o ≡ result_ok r
    → ParsesUnsigned 64 10 bs r → is_numeral bs ≡ true → o ≡ number_at bs
number_is {E} bs (Ok n) o e h is =
    let num = numeral_is bs is in
    let iff = parse_digits own {E = E} 64 bs (Ok n) h num.digits in
    let n-is : n ≡ digits_value 10 bs = iff.1 in
    e ∙ ap (λ (x : ℕ). Some x) n-is ∙ sym (within_yes (digits_value 10 bs) iff.0.1)
    ∙ sym (number_of_numeral bs is)
number_is {E} bs (Err x) o e h is =
    let num = numeral_is bs is in
    let iff = parse_digits own {E = E} 64 bs (Err x) h num.digits in
    e ∙ sym (within_no (digits_value 10 bs) (λ lt. iff (num.some, lt))) ∙ sym (number_of_numeral bs is)

within_is : (v n : ℕ) → within v ≡ Some n → (v ≡ n) × (v < 2 ^ 64)
within_is v n e =
    elim (cases_lt v (2 ^ 64)) [
      | inl lt ↦ (let same = sym (within_yes v lt) ∙ e in (let s : Some v ≡ Some n = same in cc, lt))
      | inr le ↦ (let no = sym (within_no v (λ lt. omega arith))
          ∙ e in absurd (let s : None ≡ Some n = no in cc))
    ]

-- what is read as a number is spelled so
pub number_takes : (bs : List ℕ) (n : ℕ) → number_at bs ≡ Some n → (bs ≡ decimal n) × (n < 2 ^ 64)
unfolding number_at
number_takes bs n e =
    elim (cases_Bool (is_numeral bs)) [
      | inl t ↦ (
          let num = numeral_is bs t in
          let v = within_is (digits_value 10 bs) n (sym (number_of_numeral bs t) ∙ e) in
          let back : decimal (digits_value 10 bs) ≡ bs = decimal-digits_value own bs num.digits num.some
          num.zero_alone v.1 in
          (sym back ∙ ap decimal v.0, rw (← v.0) v.1))
      | inr f ↦ absurd (let s : None ≡ Some n = rw f at e in cc)
    ]

decimal_numeral : (n : ℕ) → n < 2 ^ 64 → IsNumeral (decimal n)
decimal_numeral n lt = record {
  digits = digits_decimal own n lt;
  some = decimal_nonempty n lt;
  zero_alone = elim (cases_eq n 0) [
    | inl e ↦ λ _. ap (λ (x : ℕ). length (decimal x)) e ∙ ap length (decimal_digit 0 (omega arith))
    | inr e ↦ λ is. let first : 48 < get_or (decimal n) 0 0 = first_decimal n (omega arith) lt in absurd
        (omega arith)
  ];
}

-- and what is spelled so is read
pub number_again : (n : ℕ) → n < 2 ^ 64 → number_at (decimal n) ≡ Some n
number_again n lt =
    let v : digits_value 10 (decimal n) ≡ n = digits_value-decimal own n lt in
    number_of_numeral (decimal n) (numeral_again (decimal n) (decimal_numeral n lt)) ∙ ap within v
    ∙ within_yes n lt

pub not_numeral : (w : List ℕ) → is_numeral w ≡ false → number_at w ≡ None
unfolding number_at
not_numeral w e = rw e refl

pub found_of : (w : List ℕ) (r : Option ℕ) → r ≡ number_at w → IfSome r (λ n. w ≡ decimal n)
found_of w None e = tt
found_of w (Some n) e = (number_takes w n (sym e)).0

pub none_of : (w : List ℕ) (r : Option ℕ) → r ≡ number_at w
    → IfNone r ((n : ℕ) → n < 2 ^ 64 → w ≡ decimal n → ⊥)
none_of w None e = λ n lt is. let no : None ≡ Some n = e ∙ ap number_at is ∙ number_again n lt in cc
none_of w (Some n) e = tt

-- ---- signed numbers

-- a word without a minus sign is a number that is not negative
pub positive_only : (w : List ℕ) (r : Option (Bor (List ℕ))) → r ≡ None
    → MatchOption r ((rest : List ℕ) → w ≢ 45 ∷ rest) (λ x. w ≡ 45 ∷ x.now)
    → (z : ℤ) → FitsSigned w32 z → w ≡ signed_decimal z → (n : ℕ) × (n < 2 ^ 31) × (w ≡ decimal n)
positive_only w None e absent (pos n) fits is = (n, fits.sfits, is)
positive_only w None e absent (negsuc n) fits is = absurd (absent (decimal (suc n)) is)
positive_only w (Some x) e absent z fits is = cc

decimal_first : (n : ℕ) (rest : List ℕ) → n < 2 ^ 64 → decimal n ≡ 45 ∷ rest → ⊥
decimal_first n rest lt e =
    let digits : list_all is_ascii_digit (decimal n) ≡ true = digits_decimal own n lt in
    let no : list_all is_ascii_digit (45 ∷ rest) ≡ true = rw e at digits in
    cc

-- a word after a minus sign is the number below the negative one
pub negative_only : (w digits : List ℕ) → w ≡ 45 ∷ digits → (z : ℤ) → FitsSigned w32 z
    → w ≡ signed_decimal z → (n : ℕ) × (n < 2 ^ 31) × (digits ≡ decimal (suc n))
negative_only w digits e (pos n) fits is = absurd
    (decimal_first n digits (let lt : n < 2 ^ 31 = fits.sfits in omega arith) (sym is ∙ e))
negative_only w digits e (negsuc n) fits is =
    (n, fits.sfits, let same : 45 ∷ digits ≡ 45 ∷ decimal (suc n) = sym e ∙ is in cc)

pub minus_first : (w : List ℕ) (r : Option (Bor (List ℕ))) (x : Bor (List ℕ)) → r ≡ Some x
    → MatchOption r ((rest : List ℕ) → w ≢ 45 ∷ rest) (λ y. w ≡ 45 ∷ y.now) → w ≡ 45 ∷ x.now
minus_first w None x e m = cc
minus_first w (Some y) x e m = let k : y ≡ x = cc in m ∙ ap (λ (t : Bor (List ℕ)). 45 ∷ t.now) k

-- a word spells one number
pub one_number : (w : List ℕ) (m n : ℕ) → Some m ≡ number_at w → n < 2 ^ 64 → w ≡ decimal n → m ≡ n
one_number w m n e lt is = let same : Some m ≡ Some n = e ∙ ap number_at is ∙ number_again n lt in cc
