-- The order of keys by their bytes.
use Rattle.std.proofs.Common.{◌≡◌, ℕ, Bool, true, false, ◌&&◌, cond, List, [], ◌∷◌, refl, arith, nat_eq}
use Rattle.std.proofs.lemmas.Grind.{common_steps}
use Rattle.std.proofs.lemmas.Bool.Decides.{nat_tests}
use Rattle.std.specs.Str.{bytes_eq}
use Rattle.protocol.specs.Records.{same_bytes}
use Rattle.protocol.specs.Store.{key_below}

pub below_itself : (a : List ℕ) → key_below a a ≡ false
unfolding key_below
below_itself [] = refl
below_itself (x ∷ a) = grind (arith, common_steps, nat_tests, below_itself a)

pub below_both : (a b c : List ℕ) → key_below a b ≡ true → key_below b c ≡ true → key_below a c ≡ true
unfolding key_below
below_both [] [] c h k = absurd (cc)
below_both [] (y ∷ b) [] h k = absurd (cc)
below_both [] (y ∷ b) (z ∷ c) h k = refl
below_both (x ∷ a) [] c h k = absurd (cc)
below_both (x ∷ a) (y ∷ b) [] h k = absurd (cc)
below_both (x ∷ a) (y ∷ b) (z ∷ c) h k = grind (arith, common_steps, nat_tests, below_both a b c)

-- of two keys that are not one, one comes before the other
pub below_either : (a b : List ℕ) → same_bytes a b ≡ false → key_below a b ≡ false → key_below b a ≡ true
unfolding key_below same_bytes
below_either [] [] other h = absurd (cc)
below_either [] (y ∷ b) other h = absurd (cc)
below_either (x ∷ a) [] other h = refl
below_either (x ∷ a) (y ∷ b) other h = grind (arith, common_steps, nat_tests, below_either a b)

pub same_is : (a b : List ℕ) → same_bytes a b ≡ true → a ≡ b
unfolding same_bytes
same_is [] [] h = refl
same_is [] (y ∷ b) h = absurd (cc)
same_is (x ∷ a) [] h = absurd (cc)
same_is (x ∷ a) (y ∷ b) h = grind (arith, common_steps, nat_tests, same_is a b)

pub same_itself : (a : List ℕ) → same_bytes a a ≡ true
unfolding same_bytes
same_itself [] = refl
same_itself (x ∷ a) = grind (arith, common_steps, nat_tests, same_itself a)

pub same_other_way : (a b : List ℕ) → same_bytes a b ≡ same_bytes b a
unfolding same_bytes
same_other_way [] [] = refl
same_other_way [] (y ∷ b) = refl
same_other_way (x ∷ a) [] = refl
same_other_way (x ∷ a) (y ∷ b) = grind (arith, common_steps, nat_tests, same_other_way a b)

by_test : (b r s : Bool) → r ≡ s → (b && r) ≡ cond b s false
by_test true r s h = h
by_test false r s h = refl

pub bytes_are_same : (a b : List ℕ) → bytes_eq a b ≡ same_bytes a b
unfolding same_bytes
bytes_are_same [] [] = refl
bytes_are_same [] (y ∷ b) = refl
bytes_are_same (x ∷ a) [] = refl
bytes_are_same (x ∷ a) (y ∷ b) = by_test (nat_eq x y) (bytes_eq a b) (same_bytes a b) (bytes_are_same a b)
