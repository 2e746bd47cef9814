-- Parts of a list.
use Rattle.std.specs.Prelude.{ℕ, zero, suc, Option, Some, None, List, [], ◌∷◌, option_map}

-- N values at the front, if there are as many
abbrev pub front_in : {A : Type 0} → List A → ℕ → Option (List A)
front_in xs zero = Some []
front_in [] (suc n) = None
front_in (x ∷ xs) (suc n) = option_map (λ ys. x ∷ ys) (front_in xs n)

-- the values from one place up to another, if the list has such a part
abbrev pub part_in : {A : Type 0} → List A → ℕ → ℕ → Option (List A)
part_in xs zero end = front_in xs end
part_in xs (suc k) zero = None
part_in [] (suc k) (suc n) = None
part_in (x ∷ xs) (suc k) (suc n) = part_in xs k n
