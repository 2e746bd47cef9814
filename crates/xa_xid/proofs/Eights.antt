-- Two arrays of 64 bytes, compared eight bytes at a time.
use Rattle.std.proofs.Common.{◌≡◌, ◌∙◌, ℕ, zero, suc, ◌+◌, ◌*◌, ◌/◌, ◌<◌, ◌≤◌, List, [], ◌∷◌, ◌++◌, length, get_or, take, drop, refl, ap, sym, arith, length-take, length-drop, drop-drop}
use Rattle.std.proofs.Math.Seq.{take-add}
use Rattle.std.proofs.lemmas.List.{take-take, take_more}
use Rattle.std.proofs.lemmas.Nat.{le_bytes_8}
use Rattle.std.specs.Int.{w64, from_le_bytes, to_le_bytes}
use Rattle.std.specs.Simd.{first_chunks}

-- a number that is read from eight bytes tells them
told_by : (a b : List ℕ) (x y : ℕ) → length a ≡ 8 → length b ≡ 8 → ((i : ℕ) → get_or a i 0 < 256)
    → ((i : ℕ) → get_or b i 0 < 256)
    → x ≡ from_le_bytes w64 a → y ≡ from_le_bytes w64 b → x ≡ y → a ≡ b
told_by a b x y la lb fa fb ra rb same =
    sym (le_bytes_8 a x la fa ra) ∙ ap (to_le_bytes w64) same ∙ le_bytes_8 b y lb fb rb

chunk_at : (k i : ℕ) (xs : List ℕ) → i < k → get_or (first_chunks 8 k xs) i [] ≡ take 8 (drop (i * 8) xs)
chunk_at zero i xs h = absurd (omega arith)
chunk_at (suc k) zero xs h = refl
chunk_at (suc k) (suc i) xs h =
    let n : 8 + i * 8 ≡ suc i * 8 = omega arith in
    chunk_at k i (drop 8 xs) (omega arith)
    ∙ ap (take 8) (drop-drop (i * 8) 8 xs ∙ ap (λ m. drop m xs) n)

as_many : (k : ℕ) (xs : List ℕ) → length (first_chunks 8 k xs) ≡ k
as_many zero xs = refl
as_many (suc k) xs = ap (λ n. suc n) (as_many k (drop 8 xs))

-- the first bytes are told by the first eights
from_eights : (n k : ℕ) (a b : List ℕ) → k ≤ n
    → take k (first_chunks 8 n a) ≡ take k (first_chunks 8 n b) → take (k * 8) a ≡ take (k * 8) b
from_eights n zero a b h same = refl
from_eights zero (suc k) a b h same = absurd (omega arith)
from_eights (suc n) (suc k) a b h same =
    let first : take 8 a ≡ take 8 b = cc in
    let others : take k (first_chunks 8 n (drop 8 a)) ≡ take k (first_chunks 8 n (drop 8 b)) = cc in
    let rest = from_eights n k (drop 8 a) (drop 8 b) (omega arith) others in
    let m : suc k * 8 ≡ 8 + k * 8 = omega arith in
    ap (λ j. take j a) m ∙ take-add 8 (k * 8) a ∙ ap (λ xs. xs ++ take (k * 8) (drop 8 a)) first
    ∙ ap (λ xs. take 8 b ++ xs) rest ∙ sym (take-add 8 (k * 8) b) ∙ ap (λ j. take j b) (sym m)

drop_fits : (n : ℕ) (xs : List ℕ) → ((k : ℕ) → get_or xs k 0 < 256) → (k : ℕ) → get_or (drop n xs) k 0 < 256
drop_fits zero xs f k = f k
drop_fits (suc n) [] f k = f k
drop_fits (suc n) (x ∷ xs) f k = drop_fits n xs (λ j. f (suc j)) k

take_fits : (n : ℕ) (xs : List ℕ) → ((k : ℕ) → get_or xs k 0 < 256) → (k : ℕ) → get_or (take n xs) k 0 < 256
take_fits zero xs f k = omega arith
take_fits (suc n) [] f k = f k
take_fits (suc n) (x ∷ xs) f zero = f zero
take_fits (suc n) (x ∷ xs) f (suc k) = take_fits n xs (λ j. f (suc j)) k

-- the eights of an array
all_eights : (a : List ℕ) (eights : List (List ℕ)) → length a ≡ 64 → eights ≡ first_chunks 8 (length a / 8) a
    → eights ≡ first_chunks 8 8 a
all_eights a eights la ea = ea ∙ ap (λ (n : ℕ). first_chunks 8 (n / 8) a) la

eight_long : (i : ℕ) (a : List ℕ) → length a ≡ 64 → i < 8 → length (take 8 (drop (i * 8) a)) ≡ 8
eight_long i a la h = omega (arith, length-take 8 (drop (i * 8) a), length-drop (i * 8) a)

pub more : (a b : List ℕ) (eights others : List (List ℕ)) (i x y : ℕ) → length a ≡ 64 → length b ≡ 64
    → ((k : ℕ) → get_or a k 0 < 256) → ((k : ℕ) → get_or b k 0 < 256)
    → eights ≡ first_chunks 8 (length a / 8) a → others ≡ first_chunks 8 (length b / 8) b → i < 8
    → take i eights ≡ take i others
    → x ≡ from_le_bytes w64 (get_or eights i []) → y ≡ from_le_bytes w64 (get_or others i []) → x ≡ y
    → take (i + 1) eights ≡ take (i + 1) others
more a b eights others i x y la lb fa fb ea eb h inv rx ry same =
    let wa = all_eights a eights la ea in
    let wb = all_eights b others lb eb in
    let ga = ap (λ (l : List (List ℕ)). get_or l i []) wa ∙ chunk_at 8 i a h in
    let gb = ap (λ (l : List (List ℕ)). get_or l i []) wb ∙ chunk_at 8 i b h in
    let na : length eights ≡ 8 = ap length wa ∙ as_many 8 a in
    let nb : length others ≡ 8 = ap length wb ∙ as_many 8 b in
    let here : take 8 (drop (i * 8) a) ≡ take 8 (drop (i * 8) b) =
    told_by (take 8 (drop (i * 8) a)) (take 8 (drop (i * 8) b)) x y
    (eight_long i a la h) (eight_long i b lb h)
    (take_fits 8 (drop (i * 8) a) (drop_fits (i * 8) a fa))
    (take_fits 8 (drop (i * 8) b) (drop_fits (i * 8) b fb))
    (rx ∙ ap (from_le_bytes w64) ga) (ry ∙ ap (from_le_bytes w64) gb) same in
    take_more eights i [] (omega arith)
    ∙ ap (λ (l : List (List ℕ)). l ++ get_or eights i [] ∷ []) inv
    ∙ ap (λ (e : List ℕ). take i others ++ e ∷ []) (ga ∙ here ∙ sym gb)
    ∙ sym (take_more others i [] (omega arith))

pub whole : (a b : List ℕ) (eights others : List (List ℕ)) (count i : ℕ) → length a ≡ 64 → length b ≡ 64
    → eights ≡ first_chunks 8 (length a / 8) a → others ≡ first_chunks 8 (length b / 8) b → count ≤ 8
    → count ≤ i → take i eights ≡ take i others → take (count * 8) a ≡ take (count * 8) b
whole a b eights others count i la lb ea eb fits h inv =
    let wa = all_eights a eights la ea in
    let wb = all_eights b others lb eb in
    let same : take count eights ≡ take count others = sym (take-take count i eights h)
    ∙ ap (take count) inv ∙ take-take count i others h in
    from_eights 8 count a b fits (ap (take count) (sym wa) ∙ same ∙ ap (take count) wb)
