-- A block that was cut off is a tail.
use Rattle.std.proofs.Common.{◌≡◌, ◌≤◌, ◌<◌, ◌+◌, ◌-◌, ◌^◌, ◌||◌, ℕ, Bool, true, false, if◌then◌else◌, List, [], ◌∷◌, ◌++◌, length, take, drop, Some, None, ◌⊎◌, inl, inr, refl, ap, ◌∙◌, arith, append_assoc, length-append}
use Rattle.std.proofs.lemmas.List.{drop_all, length-take}
use Rattle.std.proofs.lemmas.Bool.{cases_lt}
use Rattle.std.proofs.Math.Seq.{take-append-add}
use Rattle.std.specs.Str.{bytes_eq}
use Rattle.file_blocks.specs.Blocks.{block_text, first_block, has_head, head_text, is_damaged, is_head, label, number_in, seal, whole_block}
use Rattle.file_blocks.specs.Laws.{CutBlocksAreTails}
use Rattle.file_blocks.proofs.Reading.{block_size, front_of, head_size, is_short, label_size, long_enough, not_short, rest_of, same_is_true, seal_size, told_size}

-- Few bytes.

few_no_block : (number place : ℕ) (bytes : List ℕ) → length bytes < 72 → first_block number place bytes ≡ None
few_no_block number place bytes h =
    ap (λ (b : Bool). if b then None
    else whole_block number place (take 72 bytes) (number_in (take 72 bytes)) (drop 72 bytes))
    (is_short (length bytes) 72 h)

few_no_head : (number place : ℕ) (bytes : List ℕ) → length bytes < 72 → is_head number place bytes ≡ false
few_no_head number place bytes h =
    ap (λ (b : Bool). if b then false else bytes_eq (seal number place (take 40 bytes))
    (take 32 (drop 40 bytes)))
    (is_short (length bytes) 72 h)

few_have_none : (number place : ℕ) (bytes : List ℕ) → length bytes < 72 → has_head number place bytes ≡ false
few_have_none number place [] h = refl
few_have_none number place (b ∷ bs) h =
    ap (λ (t : Bool). t || has_head number (place + 1) bs) (few_no_head number place (b ∷ bs) h)
    ∙ few_have_none number (place + 1) bs (omega arith)

few_no_damage : (number place : ℕ) (bytes : List ℕ) → length bytes < 72
    → is_damaged number place bytes ≡ false
few_no_damage number place bytes h =
    ap (λ (b : Bool). if b
    then has_head number (place + (72 + number_in (take 72 bytes)))
    (drop (number_in (take 72 bytes)) (drop 72 bytes))
    else has_head number place bytes) (few_no_head number place bytes h)
    ∙ few_have_none number place bytes h

-- A sound head, and fewer bytes after it than it tells.

pub head_stands : (number place : ℕ) (p rest : List ℕ)
    → is_head number place (head_text number place p ++ rest) ≡ true
head_stands number place p rest =
    let bytes = head_text number place p ++ rest in
    let parts : bytes ≡ label p ++ (seal number place (label p) ++ rest) =
    append_assoc (label p) (seal number place (label p)) rest in
    let front : take 40 bytes ≡ label p =
    ap (take 40) parts ∙ front_of 40 (label p) (seal number place (label p) ++ rest) (label_size p) in
    let check : take 32 (drop 40 bytes) ≡ seal number place (label p) =
    ap (λ t. take 32 (drop 40 t)) parts
    ∙ ap (take 32) (rest_of 40 (label p) (seal number place (label p) ++ rest) (label_size p))
    ∙ front_of 32 (seal number place (label p)) rest (seal_size number place (label p)) in
    ap (λ (b : Bool). if b then false else bytes_eq (seal number place (take 40 bytes))
    (take 32 (drop 40 bytes)))
    (not_short (length bytes) 72 (omega (
      arith,
      length-append (head_text number place p) rest,
      head_size number place p,
    )))
    ∙ (λ i. bytes_eq (seal number place (front i)) (check i))
    ∙ same_is_true (seal number place (label p))

cut_no_block : (number place : ℕ) (p rest : List ℕ) → length p < 2 ^ 64 → length rest < length p
    → first_block number place (head_text number place p ++ rest) ≡ None
cut_no_block number place p rest h less =
    long_enough number place (head_text number place p) rest (head_size number place p)
    ∙ ap (λ n. whole_block number place (head_text number place p) n rest) (told_size number place p h)
    ∙ ap (λ (b : Bool). if b then None
    else (if bytes_eq (head_text number place (take (length p) rest)) (head_text number place p)
    then Some (take (length p) rest, drop (length p) rest) else None))
    (is_short (length rest) (length p) less)

cut_no_damage : (number place : ℕ) (p rest : List ℕ) → length p < 2 ^ 64 → length rest < length p
    → is_damaged number place (head_text number place p ++ rest) ≡ false
cut_no_damage number place p rest h less =
    let bytes = head_text number place p ++ rest in
    let told : number_in (take 72 bytes) ≡ length p =
    ap number_in (front_of 72 (head_text number place p) rest (head_size number place p))
    ∙ told_size number place p h in
    let behind : drop 72 bytes ≡ rest = rest_of 72 (head_text number place p) rest (head_size number place p)
    in
    let none : drop (number_in (take 72 bytes)) (drop 72 bytes) ≡ [] =
    drop_all (number_in (take 72 bytes)) (drop 72 bytes) (omega (arith, told, ap length behind)) in
    ap (λ (b : Bool). if b
    then has_head number (place + (72 + number_in (take 72 bytes)))
    (drop (number_in (take 72 bytes)) (drop 72 bytes))
    else has_head number place bytes) (head_stands number place p rest)
    ∙ ap (has_head number (place + (72 + number_in (take 72 bytes)))) none

-- Both.

-- of two lists, one after the other, a front that takes in the first
pub past : (k n : ℕ) (a b : List ℕ) → length a ≡ n → n ≤ k → take k (a ++ b) ≡ a ++ take (k - n) b
past k n a b e h =
    let sum : k ≡ length a + (k - n) = omega (arith, e) in
    ap (λ j. take j (a ++ b)) sum ∙ take-append-add a b (k - n)

pub tails : CutBlocksAreTails
tails number place k p h less = by_case (cases_lt k 72)
  where
    text : List ℕ
    text = block_text number place p

    by_case : (k < 72) ⊎ (72 ≤ k)
        → (first_block number place (take k text) ≡ None) × (is_damaged number place (take k text) ≡ false)
    by_case (inl few) =
        let short : length (take k text) < 72 = omega (arith, length-take k text) in
        (few_no_block number place (take k text) short, few_no_damage number place (take k text) short)
    by_case (inr many) =
        let is : take k text ≡ head_text number place p ++ take (k - 72) p =
        past k 72 (head_text number place p) p (head_size number place p) many in
        let fewer : length (take (k - 72) p) < length p =
        omega (arith, length-take (k - 72) p, block_size number place p) in (
          ap (first_block number place) is ∙ cut_no_block number place p (take (k - 72) p) h fewer,
          ap (is_damaged number place) is ∙ cut_no_damage number place p (take (k - 72) p) h fewer,
        )
