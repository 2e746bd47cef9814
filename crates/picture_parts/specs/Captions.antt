-- A picture with a caption.
use Rattle.std.specs.Prelude.{◌≡◌, ℕ, List, ◌++◌}

-- a text is all of another, with something before and after it
pub record Surrounds (text whole : List ℕ) : Type 0 where
  pub head : List ℕ
  pub tail : List ℕ
  pub is : whole ≡ head ++ (text ++ tail)
