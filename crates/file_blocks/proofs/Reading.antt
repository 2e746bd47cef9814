-- What was written as a block reads as it, and what reads as a block was written.
use Rattle.std.proofs.Common.{◌≡◌, ◌≤◌, ◌<◌, ◌+◌, ◌^◌, ℕ, Bool, true, false, if◌then◌else◌, List, ◌++◌, length, take, drop, Option, Some, None, refl, sym, ap, ◌∙◌, arith, append_assoc, length-append, nat_lt}
use Rattle.std.proofs.lemmas.List.{take-append-le, drop-append-le, take_all, drop_all, take-append-drop}
use Rattle.std.proofs.lemmas.Bool.{ltb-false, ltb-true}
use Rattle.std.proofs.lemmas.Slice.Eq.{bytes_eq-Decides}
use Rattle.std.specs.Str.{bytes_eq}
use Rattle.byteorder.specs.Numbers.{big_number-reads_back, length-bytes_high_first}
use Rattle.sha2.specs.Sha256.{sha256}
use Rattle.sha2.proofs.Facts256.{length-sha256}
use Rattle.file_blocks.specs.Blocks.{block_text, first_block, head_text, label, number_in, number_text, seal, whole_block}
use Rattle.file_blocks.specs.Laws.{BlocksReadBack, ReadBlocksAreWritten}

-- Parts.

pub not_short : (m n : ℕ) → n ≤ m → nat_lt m n ≡ false
not_short m n h = by_test (nat_lt m n) refl
  where
    by_test : (b : Bool) → nat_lt m n ≡ b → b ≡ false
    by_test true e = absurd (omega (arith, ltb-true m n e))
    by_test false e = refl

pub is_short : (m n : ℕ) → m < n → nat_lt m n ≡ true
is_short m n h = by_test (nat_lt m n) refl
  where
    by_test : (b : Bool) → nat_lt m n ≡ b → b ≡ true
    by_test true e = refl
    by_test false e = absurd (omega (arith, ltb-false m n e))

pub same_is_true : (a : List ℕ) → bytes_eq a a ≡ true
same_is_true a = (bytes_eq-Decides a a).1 refl

-- the front and the rest of two lists, one after the other
pub front_of : (n : ℕ) (a b : List ℕ) → length a ≡ n → take n (a ++ b) ≡ a
front_of n a b e = take-append-le n a b (omega (arith, e)) ∙ take_all n a (omega (arith, e))

pub rest_of : (n : ℕ) (a b : List ℕ) → length a ≡ n → drop n (a ++ b) ≡ b
rest_of n a b e = drop-append-le n a b (omega (arith, e)) ∙ ap (λ t. t ++ b) (drop_all n a (omega (arith, e)))

-- Sizes.

pub number_size : (n : ℕ) → length (number_text n) ≡ 8
unfolding number_text
number_size n = length-bytes_high_first 8 n

pub number_back : (n : ℕ) (rest : List ℕ) → n < 2 ^ 64 → number_in (number_text n ++ rest) ≡ n
unfolding number_text number_in
number_back n rest h = big_number-reads_back 8 n rest h

pub label_size : (p : List ℕ) → length (label p) ≡ 40
unfolding label
label_size p = omega (
  arith,
  length-append (number_text (length p)) (sha256 p),
  number_size (length p),
  length-sha256 p,
)

pub seal_size : (number place : ℕ) (t : List ℕ) → length (seal number place t) ≡ 32
unfolding seal
seal_size number place t = length-sha256 ((number_text number ++ number_text place) ++ t)

pub head_size : (number place : ℕ) (p : List ℕ) → length (head_text number place p) ≡ 72
head_size number place p = omega (
  arith,
  length-append (label p) (seal number place (label p)),
  label_size p,
  seal_size number place (label p),
)

pub block_size : (number place : ℕ) (p : List ℕ) → length (block_text number place p) ≡ 72 + length p
block_size number place p = omega (
  arith,
  length-append (head_text number place p) p,
  head_size number place p,
)

-- a head tells how many bytes its block has
pub told_size : (number place : ℕ) (p : List ℕ) → length p < 2 ^ 64
    → number_in (head_text number place p) ≡ length p
unfolding label
told_size number place p h =
    ap number_in (append_assoc (number_text (length p)) (sha256 p) (seal number place (label p)))
    ∙ number_back (length p) (sha256 p ++ seal number place (label p)) h

-- Reading back.

-- a block is there
pub whole_back : (number place : ℕ) (p rest : List ℕ)
    → whole_block number place (head_text number place p) (length p) (p ++ rest) ≡ Some (p, rest)
whole_back number place p rest =
    let fits : nat_lt (length (p ++ rest)) (length p) ≡ false =
    not_short (length (p ++ rest)) (length p) (omega (arith, length-append p rest)) in
    let front : take (length p) (p ++ rest) ≡ p = front_of (length p) p rest refl in
    let behind : drop (length p) (p ++ rest) ≡ rest = rest_of (length p) p rest refl in
    let same : bytes_eq (head_text number place (take (length p) (p ++ rest)))
    (head_text number place p) ≡ true =
    ap (λ t. bytes_eq (head_text number place t) (head_text number place p)) front
    ∙ same_is_true (head_text number place p) in
    ap (λ (b : Bool). if b then None
    else (if bytes_eq (head_text number place (take (length p) (p ++ rest))) (head_text number place p)
    then Some (take (length p) (p ++ rest), drop (length p) (p ++ rest)) else None)) fits
    ∙ ap (λ (b : Bool). if b then Some (take (length p) (p ++ rest), drop (length p) (p ++ rest)) else None)
    same
    ∙ (λ i. Some (front i, behind i))

-- bytes that are long enough begin with a block as their head says
pub long_enough : (number place : ℕ) (head rest : List ℕ) → length head ≡ 72
    → first_block number place (head ++ rest) ≡ whole_block number place head (number_in head) rest
long_enough number place head rest e =
    let long : nat_lt (length (head ++ rest)) 72 ≡ false =
    not_short (length (head ++ rest)) 72 (omega (arith, length-append head rest)) in
    ap (λ (b : Bool). if b then None else whole_block number place (take 72 (head ++ rest))
    (number_in (take 72 (head ++ rest))) (drop 72 (head ++ rest))) long
    ∙ ap (λ (t : List ℕ). whole_block number place t (number_in t) (drop 72 (head ++ rest)))
    (front_of 72 head rest e)
    ∙ ap (λ (t : List ℕ). whole_block number place head (number_in head) t) (rest_of 72 head rest e)

pub back : BlocksReadBack
back number place p rest h =
    ap (first_block number place) (append_assoc (head_text number place p) p rest)
    ∙ long_enough number place (head_text number place p) (p ++ rest) (head_size number place p)
    ∙ ap (λ n. whole_block number place (head_text number place p) n (p ++ rest)) (told_size number place p h)
    ∙ whole_back number place p rest

-- What reads as a block.

some_else : {A : Type 0} (b : Bool) (o : Option A) (x : A) → (if b then None else o) ≡ Some x → o ≡ Some x
some_else true o x e = absurd (cc)
some_else false o x e = e

some_then : {A : Type 0} (b : Bool) (y x : A) → (if b then Some y else None) ≡ Some x → (b ≡ true) × (y ≡ x)
some_then true y x e = (refl, cc)
some_then false y x e = absurd (cc)

whole_written : (number place size : ℕ) (head bytes p rest : List ℕ)
    → whole_block number place head size bytes ≡ Some (p, rest)
    → (head ≡ head_text number place p) × (bytes ≡ p ++ rest)
whole_written number place size head bytes p rest e =
    let found = some_then (bytes_eq (head_text number place (take size bytes)) head)
    (take size bytes, drop size bytes) (p, rest)
    (some_else (nat_lt (length bytes) size)
    (if bytes_eq (head_text number place (take size bytes)) head
    then Some (take size bytes, drop size bytes) else None) (p, rest) e) in
    let front : take size bytes ≡ p = ap (λ (q : List ℕ × List ℕ). q.0) found.1 in
    let behind : drop size bytes ≡ rest = ap (λ (q : List ℕ × List ℕ). q.1) found.1 in
    let is = (bytes_eq-Decides (head_text number place (take size bytes)) head).0 found.0 in (
      sym is ∙ ap (head_text number place) front,
      sym (take-append-drop size bytes) ∙ (λ i. front i ++ behind i),
    )

pub written : ReadBlocksAreWritten
written number place p rest bytes e =
    let found = whole_written number place (number_in (take 72 bytes)) (take 72 bytes) (drop 72 bytes) p rest
    (some_else (nat_lt (length bytes) 72)
    (whole_block number place (take 72 bytes) (number_in (take 72 bytes)) (drop 72 bytes)) (p, rest) e) in
    sym (take-append-drop 72 bytes) ∙ (λ i. found.0 i ++ found.1 i)
    ∙ sym (append_assoc (head_text number place p) p rest)
