-- Fronts of lists, by how many they are.
use Rattle.std.proofs.Common.{◌≡◌, ◌+◌, ◌-◌, ℕ, zero, suc, Bool, true, false, if◌then◌else◌, List, [], ◌∷◌, ◌++◌, map, take, drop, refl, ap, arith}
use Rattle.std.specs.Prelude.{length, nat_le}
use Rattle.protocol.specs.declared.records.LogRecord.{LogRecord}
use Rattle.log_records.specs.Sights.{record_size, whole_within}

module _ {X : Type 0} where
  -- as many as a front has are that front
  pub take_as_many : (k : ℕ) (xs : List X) → take (length (take k xs)) xs ≡ take k xs
  take_as_many zero xs = refl
  take_as_many (suc k) [] = refl
  take_as_many (suc k) (x ∷ xs) = ap (λ ys. x ∷ ys) (take_as_many k xs)

  pub drop_as_many : (k : ℕ) (xs : List X) → drop (length (take k xs)) xs ≡ drop k xs
  drop_as_many zero xs = refl
  drop_as_many (suc k) [] = refl
  drop_as_many (suc k) (x ∷ xs) = drop_as_many k xs

  -- a front and the rest are all
  pub length_parts : (k : ℕ) (xs : List X) → length (take k xs) + length (drop k xs) ≡ length xs
  length_parts zero xs = omega arith
  length_parts (suc k) [] = refl
  length_parts (suc k) (x ∷ xs) = let rest = length_parts k xs in omega (arith, rest)

  pub length_append : (xs ys : List X) → length (xs ++ ys) ≡ length xs + length ys
  length_append [] ys = omega arith
  length_append (x ∷ xs) ys = let rest = length_append xs ys in omega (arith, rest)

pub length_map : {X Y : Type 0} (f : X → Y) (xs : List X) → length (map f xs) ≡ length xs
length_map f [] = refl
length_map f (x ∷ xs) = ap suc (length_map f xs)

-- the records that stand whole within N bytes are a front
pub within_is_front : (m : ℕ) (ls : List LogRecord) → whole_within m ls ≡ take (length (whole_within m ls)) ls
unfolding whole_within
within_is_front m [] = refl
within_is_front m (l ∷ ls) = by_test (nat_le (record_size l) m) (within_is_front (m - record_size l) ls)
  where
    by_test : (b : Bool)
        → whole_within (m - record_size l) ls ≡ take (length (whole_within (m - record_size l) ls)) ls
        → (if b then l ∷ whole_within (m - record_size l) ls else [])
        ≡ take (length (if b then l ∷ whole_within (m - record_size l) ls else [])) (l ∷ ls)
    by_test true e = ap (λ t. l ∷ t) e
    by_test false e = refl
