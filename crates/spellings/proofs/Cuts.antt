-- Cutting a text: what is cut stood so, and what stands so is cut.
use Rattle.std.proofs.Common.{◌≡◌, ◌≢◌, ℕ, Bool, suc, ◌+◌, ◌<◌, true, false, eqb, List, [], ◌∷◌, ◌++◌, length, get_or, take, drop, Some, None, refl, ap, sym, subst, ◌∙◌, arith, inl, inr}
use Rattle.std.specs.List.{position_or_len, before_first, after_first}
use Rattle.std.proofs.lemmas.Bool.{cases_lt, eqb-true, lt-ltb, le-ltb}
use Rattle.std.proofs.lemmas.Bool.Decides.{nat_tests}
use Rattle.std.proofs.lemmas.List.{length-append, take_at}
use Rattle.std.proofs.lemmas.List.Sums.{split_at_first, passes_at_first, position_or_len_is}
use Rattle.std.proofs.Math.ListN.{get_or-append}
use Rattle.spellings.specs.Words.{cut_at}

pub some_is : {A : Type 0} (x y : A) → Some x ≡ Some y → x ≡ y
some_is x y e = cc

-- a byte that is not there
abbrev pub Without : ℕ → List ℕ → Type 0
Without c bs = (k : ℕ) → k < length bs → get_or bs k 0 ≢ c

abbrev is_at : ℕ → ℕ → Bool
is_at c b = eqb b c

at_itself : (c : ℕ) → eqb c c ≡ true
at_itself c = grind (arith, nat_tests)

not_at : (c b : ℕ) → b ≢ c → eqb b c ≡ false
not_at c b h = grind (arith, nat_tests)

get_or_middle : (a : List ℕ) (c : ℕ) (b : List ℕ) → get_or (a ++ c ∷ b) (length a) 0 ≡ c
get_or_middle [] c b = refl
get_or_middle (x ∷ a) c b = get_or_middle a c b

pub drop_past : (a : List ℕ) (c : ℕ) (b : List ℕ) → drop (length a + 1) (a ++ c ∷ b) ≡ b
drop_past [] c b = refl
drop_past (x ∷ a) c b = let k : length (x ∷ a) + 1 ≡ suc (length a + 1) = omega arith in rw k
    (drop_past a c b)

abbrev pair : List ℕ → List ℕ → List ℕ × List ℕ
pair a b = (a, b)

parts_of : (a : List ℕ) (c : ℕ) (b : List ℕ)
    → pair (take (length a) (a ++ c ∷ b)) (drop (length a + 1) (a ++ c ∷ b)) ≡ pair a b
parts_of a c b = rw (take_at a (c ∷ b) (length a) refl, drop_past a c b) refl

pub cut_takes : (c : ℕ) (bs : List ℕ) (p : List ℕ × List ℕ) → cut_at c bs ≡ Some p → bs ≡ p.0 ++ c ∷ p.1
cut_takes c bs p e =
    elim (cases_lt (position_or_len (is_at c) bs) (length bs)) [
      | inl lt ↦ (
          let parts = split_at_first (is_at c) bs 0 lt in
          let byte : get_or bs (position_or_len (is_at c) bs) 0 ≡ c = eqb-true _ _
          (passes_at_first (is_at c) bs 0 lt) in
          let found : Some (before_first (is_at c) bs, after_first (is_at c) bs) ≡ Some p = rw
          (lt-ltb _ _ lt) at e in
          subst (λ (q : List ℕ × List ℕ). bs ≡ q.0
          ++ c ∷ q.1) (some_is (before_first (is_at c) bs, after_first (is_at c) bs) p found) (parts
          ∙ ap (λ (x : ℕ). before_first (is_at c) bs ++ x ∷ after_first (is_at c) bs) byte))
      | inr le ↦ absurd (let no : None ≡ Some p = rw (le-ltb _ _ le) at e in cc)
    ]

pub cut_again : (c : ℕ) (a b : List ℕ) → Without c a → cut_at c (a ++ c ∷ b) ≡ Some (a, b)
cut_again c a b out =
    let long : length a < length (a ++ c ∷ b) = omega (arith, length-append a (c ∷ b)) in
    let at : get_or (a ++ c ∷ b) (length a) 0 ≡ c = get_or_middle a c b in
    let here : position_or_len (is_at c) (a ++ c ∷ b) ≡ length a =
    position_or_len_is (is_at c) (a ++ c ∷ b) (length a) 0 (omega arith)
    (λ k lt. let same = get_or-append a (c ∷ b) 0 k lt in (let other = out k lt in not_at c (get_or (a
    ++ c ∷ b) k 0) (λ is. other (sym same ∙ is))))
    (λ _. rw at (at_itself c)) in
    rw (here, lt-ltb _ _ long) (ap (λ (x : List ℕ × List ℕ). Some x) (parts_of a c b))
