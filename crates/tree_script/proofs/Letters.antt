-- What follows a letter.
use Rattle.std.proofs.Common.{◌≡◌, ◌≢◌, ℕ, true, false, eqb, List, [], ◌∷◌, Option, Some, None, refl, ap, sym, arith, inl, inr, MatchOption, option_map, Bor}
use Rattle.std.proofs.lemmas.Bool.{cases_eq}
use Rattle.std.proofs.lemmas.Bool.Decides.{nat_tests}
use Rattle.tree_script.specs.Names.{after_at}

pub after_is : (c : ℕ) (bs : List ℕ) (r : Option (Bor (List ℕ)))
    → MatchOption r ((rest : List ℕ) → bs ≢ c ∷ rest) (λ x. bs ≡ c ∷ x.now)
    → option_map (λ s. s.now) r ≡ after_at c bs
after_is c [] None h = refl
after_is c (b ∷ bs) None h =
    elim (cases_eq b c) [
      | inl e ↦ absurd (h bs (ap (λ (x : ℕ). x ∷ bs) e))
      | inr
          e ↦ (let no : eqb b c ≡ false = grind (arith, nat_tests) in rw no refl)
    ]
after_is c [] (Some x) h = absurd cc
after_is c (b ∷ bs) (Some x) h =
    let head : b ≡ c = cc in
    let tail : bs ≡ x.now = cc in
    let yes : eqb b c ≡ true = grind (arith, nat_tests) in
    rw yes (ap (λ (t : List ℕ). Some t) (sym tail))
