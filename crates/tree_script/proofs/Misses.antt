-- Texts without a byte, which are not cut there, and steps of reading that went on.
use Rattle.std.proofs.Common.{◌≡◌, ◌≢◌, ◌%◌, ◌^◌, ◌<◌, ◌≤◌, ◌+◌, ℕ, zero, suc, Bool, true, false, cond, eqb, Option, Some, None, List, [], ◌∷◌, ◌++◌, length, get_or, refl, arith, inl, inr}
use Rattle.std.specs.List.{position_or_len}
use Rattle.std.specs.Fmt.{decimal}
use Rattle.std.proofs.lemmas.Fmt.{decimal_by_steps}
use Rattle.std.proofs.lemmas.Bool.{cases_eq, le-ltb}
use Rattle.std.proofs.lemmas.Bool.Decides.{nat_tests}
use Rattle.std.proofs.lemmas.List.Sums.{position_or_len_is}
use Rattle.spellings.specs.Words.{cut_at}
use Rattle.spellings.proofs.Cuts.{Without}
use Rattle.script_words.specs.Steps.{◌>>=◌}
use Rattle.script_words.specs.Steps.{same}

-- the value of a step that went on
pub bind_some : {A B : Type 0} (r : Option A) (f : A → Option B) (y : B) → (r >>= f) ≡ Some y
    → (x : A) × (r ≡ Some x) × (f x ≡ Some y)
bind_some None f y e = absurd cc
bind_some (Some x) f y e = (x, refl, e)

pub not_at : (c b : ℕ) → b ≢ c → eqb b c ≡ false
not_at c b h = grind (arith, nat_tests)

-- whether a text has no such byte
abbrev pub misses : ℕ → List ℕ → Bool
misses c [] = true
misses c (b ∷ bs) = cond (eqb b c) false (misses c bs)

first_missed : (c b : ℕ) (r : Bool) → cond (eqb b c) false r ≡ true → (b ≢ c) × (r ≡ true)
first_missed c b r h =
    elim (cases_eq b c) [
      | inl e ↦ absurd (let yes : eqb b c ≡ true = grind (arith, nat_tests) in let no : false ≡ true =
          rw yes at h in cc)
      | inr e ↦ (e, rw (not_at c b e) at h)
    ]

pub misses_append : (c : ℕ) (a b : List ℕ) → misses c a ≡ true → misses c b ≡ true → misses c (a ++ b) ≡ true
misses_append c [] b h k = k
misses_append c (x ∷ a) b h k =
    let parts = first_missed c x (misses c a) h in
    rw (not_at c x parts.0) (misses_append c a b parts.1 k)

pub misses_without : (c : ℕ) (bs : List ℕ) → misses c bs ≡ true → Without c bs
misses_without c [] h k lt e = absurd (omega arith)
misses_without c (x ∷ xs) h zero lt e = (first_missed c x (misses c xs) h).0 e
misses_without c (x ∷ xs) h (suc k) lt e = misses_without c xs (first_missed c x (misses c xs) h).1 k
    (omega arith) e

-- a text without the byte is not cut there
pub cut_none : (c : ℕ) (bs : List ℕ) → misses c bs ≡ true → cut_at c bs ≡ None
cut_none c bs h =
    let here : position_or_len (λ b. eqb b c) bs ≡ length bs =
    position_or_len_is (λ b. eqb b c) bs (length bs) 0 (omega arith)
    (λ k lt. not_at c (get_or bs k 0) (misses_without c bs h k lt)) (λ lt. absurd (omega arith)) in
    let end : length bs ≤ position_or_len (λ b. eqb b c) bs = omega arith in
    rw (le-ltb _ _ end) refl

-- a byte that is no digit
abbrev pub IsMark : ℕ → Type 0
IsMark c = (d : ℕ) → 48 ≤ d → d ≤ 57 → d ≢ c

pub full_stop : IsMark 46
full_stop d low high e = omega arith

pub at_sign : IsMark 64
at_sign d low high e = omega arith

pub blank : IsMark 32
blank d low high e = omega arith

digit_misses : (c d : ℕ) → IsMark c → 48 ≤ d → d ≤ 57 → misses c (d ∷ []) ≡ true
digit_misses c d mark low high = rw (not_at c d (mark d low high)) refl

pub decimal_misses : (c : ℕ) → IsMark c → (n : ℕ) → n < 2 ^ 64 → misses c (decimal n) ≡ true
decimal_misses c mark n h =
    decimal_by_steps (λ k ds. misses c ds ≡ true)
    (λ k lt. digit_misses c (48 + k) mark (omega arith) (omega arith))
    (λ k ds big before. misses_append c ds ((48 + k % 10) ∷ []) before
    (digit_misses c (48 + k % 10) mark (omega arith) (omega arith))) n h

-- words that pass the test are one
pub same_tells : (a b : List ℕ) → same a b ≡ true → a ≡ b
same_tells [] [] h = refl
same_tells [] (y ∷ b) h = absurd cc
same_tells (x ∷ a) [] h = absurd cc
same_tells (x ∷ a) (y ∷ b) h =
    elim (cases_eq x y) [
      | inl e ↦ (
          let yes : eqb x y ≡ true = grind (arith, nat_tests) in
          let rest : a ≡ b = same_tells a b (rw yes at h) in
          rw (e, rest) refl)
      | inr e ↦ absurd (let no : false ≡ true = rw (not_at y x e) at h in cc)
    ]
