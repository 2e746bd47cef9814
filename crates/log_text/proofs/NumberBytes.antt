-- Bytes, and the numbers that they are read as.
use Rattle.std.proofs.Common.{◌≡◌, ◌≤◌, ◌<◌, ◌+◌, ◌*◌, ◌^◌, ◌%◌, ◌/◌, ℕ, zero, suc, List, [], ◌∷◌, ◌++◌, length, take, drop, refl, sym, ap, subst, ◌∙◌, arith, append-nil, slice_index}
use Rattle.std.proofs.Math.Nat.{mul-add-mod_self_right, mod-eq_of_lt, mul-div_cancel}
use Rattle.std.proofs.Math.Seq.{take-length}
use Rattle.std.proofs.lemmas.List.{get_or-drop}
use Rattle.byteorder.specs.Endian.{big_bytes, big_from, big_number}
use Rattle.byteorder.specs.Numbers.{big_from-cons, big_from-lt, big_number-reads_back, length-bytes_high_first}

-- each number of the list is a byte
abbrev pub AreBytes : List ℕ → Type 0
AreBytes xs = (i : ℕ) → slice_index xs i < 256

-- Bytes.

pub bytes_behind : (n : ℕ) (xs : List ℕ) → AreBytes xs → AreBytes (drop n xs)
bytes_behind n xs h i = subst (λ b. b < 256) (sym (get_or-drop n xs i 0)) (h (n + i))

pub tail_bytes : (a : ℕ) (xs : List ℕ) → AreBytes (a ∷ xs) → AreBytes xs
tail_bytes a xs h i = h (suc i)

pub first_bytes : (n : ℕ) (xs : List ℕ) → AreBytes xs → AreBytes (take n xs)
first_bytes zero xs h i = omega arith
first_bytes (suc n) [] h i = omega arith
first_bytes (suc n) (x ∷ xs) h zero = h 0
first_bytes (suc n) (x ∷ xs) h (suc i) = first_bytes n xs (tail_bytes x xs h) i

-- Numbers.

-- a number's highest byte and the rest of it are one
same_rest : (a b m r s : ℕ) → r < m → s < m → a * m + r ≡ b * m + s → r ≡ s
same_rest a b m r s hr hs e =
    sym (mod-eq_of_lt hr) ∙ sym (mul-add-mod_self_right a m r) ∙ ap (λ n. n % m) e
    ∙ mul-add-mod_self_right b m s ∙ mod-eq_of_lt hs

same_high : (a b m r s : ℕ) → r < m → s < m → a * m + r ≡ b * m + s → a ≡ b
same_high a b m r s hr hs e =
    let rest : r ≡ s = same_rest a b m r s hr hs e in
    let product : a * m ≡ b * m = omega (arith, e, rest) in
    let positive : 0 < m = omega (arith, hr) in
    sym (mul-div_cancel a positive) ∙ ap (λ n. n / m) product ∙ mul-div_cancel b positive

one_number : (n : ℕ) (xs ys : List ℕ) → AreBytes xs → AreBytes ys → n ≤ length xs → n ≤ length ys
    → big_number n xs ≡ big_number n ys → take n xs ≡ take n ys
one_number zero xs ys h k lx ly e = refl
one_number (suc n) [] ys h k lx ly e = absurd (omega (arith, lx))
one_number (suc n) (a ∷ xs) [] h k lx ly e = absurd (omega (arith, ly))
one_number (suc n) (a ∷ xs) (b ∷ ys) h k lx ly e =
    let here : a * 256 ^ n + big_from 0 n xs ≡ b * 256 ^ n + big_from 0 n ys =
    ap (λ r. a * 256 ^ n + r) (sym (big_from-cons 0 n a xs)) ∙ e
    ∙ ap (λ r. b * 256 ^ n + r) (big_from-cons 0 n b ys) in
    let small = big_from-lt 0 n xs (tail_bytes a xs h) in
    let small' = big_from-lt 0 n ys (tail_bytes b ys k) in
    let high : a ≡ b = same_high a b (256 ^ n) (big_from 0 n xs) (big_from 0 n ys) small small' here in
    let rest : take n xs ≡ take n ys = one_number n xs ys (tail_bytes a xs h) (tail_bytes b ys k)
    (omega (arith, lx)) (omega (arith, ly))
    (same_rest a b (256 ^ n) (big_from 0 n xs) (big_from 0 n ys) small small' here) in
    ap (λ c. c ∷ take n xs) high ∙ ap (λ cs. b ∷ cs) rest

pub number_bytes : (n x : ℕ) → AreBytes (big_bytes n x)
number_bytes zero x i = omega arith
number_bytes (suc n) x zero = byte_small n x
  where
    byte_small : (n x : ℕ) → Rattle.std.specs.Int.byte_at n x < 256
    byte_small zero x = omega arith
    byte_small (suc n) x = omega arith
number_bytes (suc n) x (suc i) = number_bytes n x i

-- the bytes of the number that is read are those that it was read from
pub number_again : (n : ℕ) (xs : List ℕ) → AreBytes xs → n ≤ length xs
    → big_bytes n (big_number n xs) ≡ take n xs
number_again n xs h le =
    let size : length (big_bytes n (big_number n xs)) ≡ n = length-bytes_high_first n (big_number n xs) in
    let read : big_number n (big_bytes n (big_number n xs) ++ []) ≡ big_number n xs =
    big_number-reads_back n (big_number n xs) [] (big_from-lt 0 n xs h) in
    let same : take n (big_bytes n (big_number n xs)) ≡ take n xs =
    one_number n (big_bytes n (big_number n xs)) xs (number_bytes n (big_number n xs)) h
    (omega (arith, size)) le
    (ap (big_number n) (sym (append-nil (big_bytes n (big_number n xs)))) ∙ read) in
    sym (ap (λ k. take k (big_bytes n (big_number n xs))) (sym size)
    ∙ take-length (big_bytes n (big_number n xs))) ∙ same
