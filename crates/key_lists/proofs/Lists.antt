-- The first element of a list, and the others.
use Rattle.std.proofs.Common.{◌≡◌, ◌≤◌, ◌<◌, ◌-◌, List, [], ◌∷◌, length, take, drop, slice_index_or, refl, sym, ap, ◌∙◌, arith}
use Rattle.std.proofs.Math.Seq.{take-length}

-- a list that a loop over slices is at: its first element, and those that the next turn is at
pub first_and_rest : {A : Type 0} (xs : List A) (x : A) → 1 ≤ length xs → slice_index_or xs 0 x ≡ x
    → xs ≡ x ∷ take (length xs - 1) (drop 1 xs)
first_and_rest [] x some first = absurd (omega arith)
first_and_rest (y ∷ ys) x some first =
    let one_less : length (y ∷ ys) - 1 ≡ length ys = omega arith in
    ap (λ z. z ∷ ys) first ∙ ap (λ zs. x ∷ zs) (sym (ap (λ n. take n ys) one_less ∙ take-length ys))

pub none_left : {A : Type 0} (xs : List A) → length xs < 1 → xs ≡ []
none_left [] few = refl
none_left (x ∷ xs) few = absurd (omega arith)
