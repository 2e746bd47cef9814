-- A file reads in one way.
use Rattle.std.proofs.Common.{◌≡◌, ◌<◌, ◌^◌, ℕ, List, [], ◌∷◌, ◌++◌, length, drop, Some, None, refl, sym, ap, subst, ◌∙◌, arith, append_assoc, append-nil, length-append}
use Rattle.sha2.specs.Sha256.{sha256}
use Rattle.file_blocks.specs.Blocks.{behind, behind_all, block_text, blocks_text, first_block, number_in, number_text}
use Rattle.file_blocks.specs.Files.{file_head, title}
use Rattle.file_blocks.specs.Laws.{AreTold, BlocksGoBehind, FilesReadOneWay}
use Rattle.sha2.proofs.Facts256.{length-sha256}
use Rattle.file_blocks.proofs.Reading.{back, number_back, number_size, rest_of}

-- The head of a file.

title_size : (n : ℕ) → length (title n) ≡ 16
unfolding title
title_size n = omega (arith, number_size n)

pub file_head_size : (n : ℕ) → length (file_head n) ≡ 48
unfolding file_head
file_head_size n = omega (
  arith,
  length-append (title n) (sha256 (title n)),
  title_size n,
  length-sha256 (title n),
)

-- the number of a file is in its head
pub head_number : (n : ℕ) (rest : List ℕ) → n < 2 ^ 64 → number_in (drop 8 (file_head n ++ rest)) ≡ n
unfolding file_head title
head_number n rest h =
    ap number_in (append_assoc (number_text n) (sha256 (title n)) rest)
    ∙ number_back n (sha256 (title n) ++ rest) h

-- Blocks.

abbrev Pair : Type 0
Pair = List ℕ × List ℕ

both : (x y : Pair) → Some x ≡ Some y → (x.0 ≡ y.0) × (x.1 ≡ y.1)
both x y e =
    let is : x ≡ y = cc in
    (ap (λ (q : Pair). q.0) is, ap (λ (q : Pair). q.1) is)

first_of : (n place : ℕ) (p : List ℕ) (ps : List (List ℕ)) (t : List ℕ) → length p < 2 ^ 64
    → first_block n place (blocks_text n place (p ∷ ps) ++ t)
    ≡ Some (p, blocks_text n (behind place p) ps ++ t)
first_of n place p ps t h =
    ap (first_block n place) (append_assoc (block_text n place p) (blocks_text n (behind place p) ps) t)
    ∙ back n place p (blocks_text n (behind place p) ps ++ t) h

pub blocks_one_way : (n place : ℕ) (ps qs : List (List ℕ)) (t u : List ℕ) → AreTold ps → AreTold qs
    → blocks_text n place ps ++ t ≡ blocks_text n place qs ++ u
    → first_block n (behind_all place ps) t ≡ None → first_block n (behind_all place qs) u ≡ None
    → (ps ≡ qs) × (t ≡ u)
blocks_one_way n place [] [] t u f g e ends also = (refl, e)
blocks_one_way n place [] (q ∷ qs) t u f g e ends also =
    let found : first_block n place t ≡ Some (q, blocks_text n (behind place q) qs ++ u) =
    ap (first_block n place) e ∙ first_of n place q qs u g.0 in
    absurd (cc)
blocks_one_way n place (p ∷ ps) [] t u f g e ends also =
    let found : first_block n place u ≡ Some (p, blocks_text n (behind place p) ps ++ t) =
    ap (first_block n place) (sym e) ∙ first_of n place p ps t f.0 in
    absurd (cc)
blocks_one_way n place (p ∷ ps) (q ∷ qs) t u f g e ends also =
    let found = both (p, blocks_text n (behind place p) ps ++ t) (q, blocks_text n (behind place q) qs ++ u)
    (sym (first_of n place p ps t f.0) ∙ ap (first_block n place) e ∙ first_of n place q qs u g.0) in
    let Q : List ℕ → Type 0 = λ r. first_block n (behind_all (behind place r) qs) u ≡ None in
    let rest = blocks_one_way n (behind place p) ps qs t u f.1 g.1
    (found.1 ∙ ap (λ r. blocks_text n (behind place r) qs ++ u) (sym found.0)) ends
    (subst Q (sym found.0) also) in
    ((λ i. found.0 i ∷ rest.0 i), rest.1)

pub one_way : FilesReadOneWay
one_way n m ps qs t u bytes h k f g is also =
    let same : n ≡ m =
    sym (head_number n (blocks_text n 48 ps ++ t) h) ∙ ap (λ b. number_in (drop 8 b))
    (sym is.text ∙ also.text)
    ∙ head_number m (blocks_text m 48 qs ++ u) k in
    let body : blocks_text n 48 ps ++ t ≡ blocks_text m 48 qs ++ u =
    sym (rest_of 48 (file_head n) (blocks_text n 48 ps ++ t) (file_head_size n))
    ∙ ap (drop 48) (sym is.text ∙ also.text)
    ∙ rest_of 48 (file_head m) (blocks_text m 48 qs ++ u) (file_head_size m) in
    let found = blocks_one_way n 48 ps qs t u f g
    (body ∙ ap (λ j. blocks_text j 48 qs ++ u) (sym same)) is.ends
    (ap (λ j. first_block j (behind_all 48 qs) u) same ∙ also.ends) in
    (same, found.0, found.1)

-- One block more.

pub goes_behind : BlocksGoBehind
goes_behind number place [] p = append-nil (block_text number place p)
goes_behind number place (q ∷ qs) p =
    ap (λ t. block_text number place q ++ t) (goes_behind number (behind place q) qs p)
    ∙ sym (append_assoc (block_text number place q) (blocks_text number (behind place q) qs)
    (block_text number (behind_all (behind place q) qs) p))
