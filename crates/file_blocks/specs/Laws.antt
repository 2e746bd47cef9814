-- What is written reads back, and what a cut of power leaves of the last block is a tail.
use Rattle.std.specs.Prelude.{◌≡◌, ◌≤◌, ◌<◌, ◌+◌, ◌^◌, ◌⊎◌, ℕ, true, false, List, [], ◌∷◌, ◌++◌, length, take, Some, None}
use Rattle.std.specs.List.{AllByRecursion, concat}
use Rattle.file_blocks.specs.Blocks.{behind, behind_all, block_text, blocks_text, first_block, head_text, is_damaged, is_head}
use Rattle.file_blocks.specs.Files.{Holds, IsDamaged, IsFile, file_number, file_text}

-- N bytes can be told by a head
abbrev pub AreTold : List (List ℕ) → Type 0
AreTold ps = AllByRecursion (λ p. length p < 2 ^ 64) ps

-- A block reads as its bytes, whatever is after it; and what reads as a block is one.
abbrev pub BlocksReadBack : Type 0
BlocksReadBack = (number place : ℕ) (p rest : List ℕ) → length p < 2 ^ 64
    → first_block number place (block_text number place p ++ rest) ≡ Some (p, rest)

abbrev pub ReadBlocksAreWritten : Type 0
ReadBlocksAreWritten = (number place : ℕ) (p rest bytes : List ℕ)
    → first_block number place bytes ≡ Some (p, rest) → bytes ≡ block_text number place p ++ rest

-- A file is read in one way: bytes are the file of at most one number, list of blocks and tail.
abbrev pub FilesReadOneWay : Type 0
FilesReadOneWay = (n m : ℕ) (ps qs : List (List ℕ)) (t u bytes : List ℕ) → n < 2 ^ 64 → m < 2 ^ 64
    → AreTold ps → AreTold qs → IsFile n ps t bytes → IsFile m qs u bytes
    → (n ≡ m) × (ps ≡ qs) × (t ≡ u)

-- A block that was cut off is no block and no damage: it is a tail that is passed over.
abbrev pub CutBlocksAreTails : Type 0
CutBlocksAreTails = (number place k : ℕ) (p : List ℕ) → length p < 2 ^ 64
    → k < length (block_text number place p)
    → (first_block number place (take k (block_text number place p)) ≡ None)
    × (is_damaged number place (take k (block_text number place p)) ≡ false)

-- A block that is broken is damage where the head of another is after it: its own head is as it was written,
-- or is none any more. (A head that is another one and sound has the digest of another text.)
abbrev pub BrokenBlocksAreTold : Type 0
BrokenBlocksAreTold = (number place : ℕ) (p t q more : List ℕ) → length p < 2 ^ 64 → length t ≡ 72 + length p
    → (take 72 t ≡ head_text number place p)
    ⊎ (is_head number place (t ++ (head_text number (behind place p) q ++ more)) ≡ false)
    → is_damaged number place (t ++ (head_text number (behind place p) q ++ more)) ≡ true

-- A file with one block more is the file and that block after it.
abbrev pub BlocksGoBehind : Type 0
BlocksGoBehind = (number place : ℕ) (ps : List (List ℕ)) (p : List ℕ)
    → blocks_text number place (ps ++ p ∷ [])
    ≡ blocks_text number place ps ++ block_text number (behind_all place ps) p

-- What a crash leaves of a file to which a block was being written: what was on the disk, the file of the
-- first blocks, and of that block any front, none and all of it included.
pub record IsFileLeft (number : ℕ) (first : List ℕ) (others : List (List ℕ)) (p bytes : List ℕ) : Type 0 where
  pub keep : ℕ
  pub safe : length (file_text number (first ∷ others)) ≤ keep
  pub is : bytes ≡ take keep (file_text number (first ∷ (others ++ p ∷ [])))

-- Such a file is read as what was on the disk, or as that and the block, and as nothing else: it is never
-- damaged.
abbrev pub FilesKeepWhatWasForced : Type 0
FilesKeepWhatWasForced = (number : ℕ) (first : List ℕ) (others : List (List ℕ)) (p bytes : List ℕ)
    → number < 2 ^ 64
    → length (file_text number (first ∷ (others ++ p ∷ []))) < 2 ^ 64
    → IsFileLeft number first others p bytes
    → (IsDamaged bytes (file_number bytes) → ⊥)
    × ((m : ℕ) (held : List ℕ) → m < 2 ^ 64 → Holds bytes m held
    → (held ≡ concat (first ∷ others)) ⊎ (held ≡ concat (first ∷ others) ++ p))
