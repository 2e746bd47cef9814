-- Parts of a list.
use Rattle.std.proofs.Common.{◌≡◌, ◌∙◌, sym, ap, refl, ℕ, zero, suc, ◌-◌, ◌<◌, ◌≤◌, ◌⊎◌, inl, inr, Option, Some, None, List, [], ◌∷◌, ◌++◌, length, option_map, take, drop, arith}
use Rattle.std.specs.Borrow.{Bor}
use Rattle.std.specs.Slice.{IsGetRangeResult}
use Rattle.tree_journal.specs.Spans.{front_in, part_in}

-- what the one finds the other finds
abbrev pub Finds : {A : Type 0} → Option A → Option A → Type 0
Finds o p = (a : _) → o ≡ Some a → p ≡ Some a

pub finds_mapped : {A B : Type 0} (f : A → B) (o p : Option A) → Finds o p
    → Finds (option_map f o) (option_map f p)
finds_mapped f None p h b is = absurd (cc)
finds_mapped f (Some x) p h b is = ap (λ q. option_map f q) (h x refl) ∙ is

-- What is found in a list is found in a longer one.

front_more : {A : Type 0} (xs ys : List A) (n : ℕ) → Finds (front_in xs n) (front_in (xs ++ ys) n)
front_more xs ys zero a is = is
front_more [] ys (suc n) a is = absurd (cc)
front_more (x ∷ xs) ys (suc n) a is =
    finds_mapped (λ zs. x ∷ zs) (front_in xs n) (front_in (xs ++ ys) n) (front_more xs ys n) a is

pub part_more : {A : Type 0} (xs ys : List A) (k n : ℕ) → Finds (part_in xs k n) (part_in (xs ++ ys) k n)
part_more xs ys zero n a is = front_more xs ys n a is
part_more xs ys (suc k) zero a is = absurd (cc)
part_more [] ys (suc k) (suc n) a is = absurd (cc)
part_more (x ∷ xs) ys (suc k) (suc n) a is = part_more xs ys k n a is

-- What was added is after.

front_whole : {A : Type 0} (ys : List A) → front_in ys (length ys) ≡ Some ys
front_whole [] = refl
front_whole (y ∷ ys) = ap (λ o. option_map (λ zs. y ∷ zs) o) (front_whole ys)

pub part_behind : {A : Type 0} (xs ys : List A) → part_in (xs ++ ys) (length xs) (length (xs ++ ys)) ≡ Some ys
part_behind [] ys = front_whole ys
part_behind (x ∷ xs) ys = part_behind xs ys

-- A part of a list as `get` gives it.

front_none : {A : Type 0} (xs : List A) (n : ℕ) → length xs < n → front_in xs n ≡ None
front_none xs zero h = absurd (omega (arith, h))
front_none [] (suc n) h = refl
front_none (x ∷ xs) (suc n) h = ap (λ o. option_map (λ zs. x ∷ zs) o) (front_none xs n (omega (arith, h)))

pub part_none : {A : Type 0} (xs : List A) (k n : ℕ) → (n < k) ⊎ (length xs < n) → part_in xs k n ≡ None
part_none xs zero n (inl h) = absurd (omega (arith, h))
part_none xs zero n (inr h) = front_none xs n h
part_none xs (suc k) zero h = refl
part_none [] (suc k) (suc n) h = refl
part_none (x ∷ xs) (suc k) (suc n) (inl h) = part_none xs k n (inl (omega (arith, h)))
part_none (x ∷ xs) (suc k) (suc n) (inr h) = part_none xs k n (inr (omega (arith, h)))

front_some : {A : Type 0} (xs : List A) (n : ℕ) → n ≤ length xs → front_in xs n ≡ Some (take n xs)
front_some xs zero h = refl
front_some [] (suc n) h = absurd (omega (arith, h))
front_some (x ∷ xs) (suc n) h = ap (λ o. option_map (λ zs. x ∷ zs) o) (front_some xs n (omega (arith, h)))

pub part_some : {A : Type 0} (xs : List A) (k n : ℕ) → k ≤ n → n ≤ length xs
    → part_in xs k n ≡ Some (take (n - k) (drop k xs))
part_some xs zero n h g = let all : n - 0 ≡ n = omega arith in rw all (front_some xs n g)
part_some xs (suc k) zero h g = absurd (omega (arith, h))
part_some [] (suc k) (suc n) h g = absurd (omega (arith, g))
part_some (x ∷ xs) (suc k) (suc n) h g =
    let same : suc n - suc k ≡ n - k = omega arith in
    rw same (part_some xs k n (omega (arith, h)) (omega (arith, g)))

pub part_found : {A : Type 0} (xs : List A) (k n : ℕ) (o : Option (Bor (List A)))
    → IsGetRangeResult xs k n o → option_map (λ p. p.now) o ≡ part_in xs k n
part_found xs k n None h = sym (part_none xs k n h.0)
part_found xs k n (Some p) h = ap (λ ys. Some ys) h.0.2 ∙ sym (part_some xs k n h.0.0 h.0.1)
