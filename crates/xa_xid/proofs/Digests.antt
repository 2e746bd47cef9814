-- The digest of a part, from the words that its array is read as.
use Rattle.std.proofs.Common.{◌≡◌, ℕ, ◌≤◌, ◌/◌, List, length, take, ap, sym, ◌∙◌, arith, length-take, take_all}
use Rattle.std.specs.Int.{div_ceil}
use Rattle.std.specs.List.{fold}
use Rattle.std.specs.Simd.{first_chunks}
use Rattle.xa_xid.specs.Digests.{mixed, mixed_bytes, eights, part_digest}
use Rattle.xa_xid.specs.Part.{IsPart}

-- the words of the array of a part, up to the last that has a byte of it
eights_of : (len : ℕ) (bytes : List ℕ) (chunks : List (List ℕ)) → IsPart len bytes
    → chunks ≡ first_chunks 8 (length bytes / 8) bytes
    → take (div_ceil len 8) chunks ≡ eights (take len bytes)
unfolding eights
eights_of len bytes chunks h is =
    let fits = h.fits in
    let size = h.size in
    let k : length (take len bytes) ≡ len = omega (arith, length-take len bytes) in
    let n : length bytes / 8 ≡ 8 = ap (λ (m : ℕ). m / 8) size in
    ap (λ (m : ℕ). take (div_ceil m 8) chunks) (sym k)
    ∙ ap (take (div_ceil (length (take len bytes)) 8))
    (is ∙ ap (λ (m : ℕ). first_chunks 8 m bytes) n ∙ ap (first_chunks 8 8) h.zeros)

-- all words are mixed in
pub whole : (before digest first len n i : ℕ) (bytes : List ℕ) (chunks : List (List ℕ)) → IsPart len bytes
    → chunks ≡ first_chunks 8 (length bytes / 8) bytes → n ≡ div_ceil len 8 → first ≡ mixed before len
    → length (take n chunks) ≤ i → digest ≡ fold mixed_bytes first (take i (take n chunks))
    → digest ≡ part_digest before (take len bytes)
unfolding part_digest
whole before digest first len n i bytes chunks h is ceil begun past sum =
    let fits = h.fits in
    let size = h.size in
    let k : length (take len bytes) ≡ len = omega (arith, length-take len bytes) in
    let all : take i (take n chunks) ≡ take n chunks = take_all i (take n chunks) past in
    let words : take n chunks ≡ eights (take len bytes) = rw ceil (eights_of len bytes chunks h is) in
    cc
