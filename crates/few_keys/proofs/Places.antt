-- What is at the place of a key.
use Rattle.std.proofs.Common.{◌≡◌, ◌<◌, ℕ, Bool, true, List, [], ◌∷◌, Option, Some, None, length, position, get_or, slice_get, arith, sym, ap, subst, ◌∙◌}
use Rattle.std.specs.Prelude.{IfSome}
use Rattle.std.specs.Map.{keys_of}
use Rattle.std.proofs.Math.ListN.{get_or-map}
use Rattle.std.proofs.lemmas.List.Quantifiers.{position-Some}
use Rattle.std.proofs.lemmas.Map.Entries.{length-keys_of}
use Rattle.std.proofs.lemmas.Option.{slice_get-get_or}
use Rattle.indexmap.specs.IndexMap.{IndexMap, Updates}

-- the entry at the place of a key is of that key
pub entry_at : {K X : Type 0} (eq : K → K → Bool) (es : List (K × X)) (k : K) (i : ℕ)
    → position (eq k) (keys_of es) ≡ Some i → (e : K × X) × (slice_get es i ≡ Some e) × (eq k e.0 ≡ true)
entry_at eq [] k i at = absurd cc
entry_at {K} {X} eq (e ∷ es) k i at =
    let found = position-Some (eq k) (keys_of (e ∷ es)) i e.0 at in
    let within : i < length (e ∷ es) = omega (arith, found.0, length-keys_of (e ∷ es)) in (
      get_or (e ∷ es) i e,
      slice_get-get_or (e ∷ es) i e within,
      ap (eq k) (sym (get_or-map (λ (q : K × X). q.0) (e ∷ es) i e)) ∙ found.1,
    )

-- what a map says that took out the entry at the place of a key, where keys that are equal are one
pub taken_at : {K X S : Type 0} (eq : K → K → Bool) → ((a b : K) → eq a b ≡ true → a ≡ b)
    → (m n : IndexMap K X S) (k : K) (i : ℕ) (r : Option (K × X))
    → position (eq k) (keys_of m.entries) ≡ Some i → r ≡ slice_get m.entries i
    → IfSome r (λ e. Updates eq m n e.0 None) → Updates eq m n k None
taken_at eq one m n k i r at is out =
    let entry = entry_at eq m.entries k i at in
    subst (λ j. Updates eq m n j None) (sym (one k entry.0.0 entry.2))
    (subst (λ o. IfSome o (λ e. Updates eq m n e.0 None)) (is ∙ entry.1) out)
