-- The test of bytes that the definitions use is that of the code.
use Rattle.std.proofs.Common.{◌≡◌, ℕ, Bool, true, false, List, [], ◌∷◌, refl, ◌&&◌, nat_eq, if◌then◌else◌}
use Rattle.std.specs.Str.{bytes_eq}
use Rattle.protocol.specs.Records.{same_bytes}

by_test : (b r s : Bool) → r ≡ s → (b && r) ≡ (if b then s else false)
by_test true r s h = h
by_test false r s h = refl

pub same_bytes_is_equality : (a b : List ℕ) → bytes_eq a b ≡ same_bytes a b
unfolding same_bytes
same_bytes_is_equality [] [] = refl
same_bytes_is_equality [] (y ∷ b) = refl
same_bytes_is_equality (x ∷ a) [] = refl
same_bytes_is_equality (x ∷ a) (y ∷ b) = by_test (nat_eq x y) (bytes_eq a b) (same_bytes a b)
    (same_bytes_is_equality a b)
