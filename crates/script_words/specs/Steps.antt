-- Reading step by step.
use Rattle.std.specs.Prelude.{ℕ, List, Bool, nat_eq, Option, Some, None}
use Rattle.std.specs.Cmp.Lexicographic.{pointwise}

-- the second step of reading, where the first gave something
infixl 10 ◌>>=◌
-- what is read next, where something was read
abbrev pub ◌>>=◌ : {A B : Type 0} → Option A → (A → Option B) → Option B
None >>= f = None
(Some x) >>= f = f x

-- two words are one
abbrev pub same : List ℕ → List ℕ → Bool
same a b = pointwise nat_eq a b
