-- A log's file.
use Rattle.std.specs.Prelude.{◌≡◌, ◌+◌, ◌⊎◌, ℕ, true, false, nat_lt, if◌then◌else◌, List, [], ◌∷◌, ◌++◌, length, take, drop, Option, Some, None}
use Rattle.std.specs.List.{concat}
use Rattle.std.specs.Str.{bytes_eq}
use Rattle.sha2.specs.Sha256.{sha256}
use Rattle.file_blocks.specs.Blocks.{behind_all, blocks_text, first_block, is_damaged, number_in, number_text}

-- "RSTARLOG" and the file's number
unfoldable pub title : ℕ → List ℕ
title number = (82 ∷ 83 ∷ 84 ∷ 65 ∷ 82 ∷ 76 ∷ 79 ∷ 71 ∷ []) ++ number_text number

-- what a file begins with
unfoldable pub file_head : ℕ → List ℕ
file_head number = title number ++ sha256 (title number)

-- the number of the file that begins so; none where these are no bytes of a log's file
abbrev pub file_number : List ℕ → Option ℕ
file_number bytes =
    if nat_lt (length bytes) 48 then None
    else (if bytes_eq (file_head (number_in (drop 8 bytes))) (take 48 bytes)
    then Some (number_in (drop 8 bytes)) else None)

-- the file of these blocks
abbrev pub file_text : ℕ → List (List ℕ) → List ℕ
file_text number ps = file_head number ++ blocks_text number 48 ps

-- These bytes are a file's head, these blocks, and a tail with which no whole block begins.
pub record IsFile (number : ℕ) (ps : List (List ℕ)) (tail : List ℕ) (bytes : List ℕ) : Type 0 where
  pub text : bytes ≡ file_head number ++ (blocks_text number 48 ps ++ tail)
  pub ends : first_block number (behind_all 48 ps) tail ≡ None

-- so far the first block and these others were read, which hold these bytes, and this is after them
pub record Begun (bytes : List ℕ) (number : ℕ) (rest held : List ℕ) : Type 0 where
  pub first : List ℕ
  pub others : List (List ℕ)
  pub text : bytes ≡ file_head number ++ (blocks_text number 48 (first ∷ others) ++ rest)
  pub place : behind_all 48 (first ∷ others) + length rest ≡ length bytes
  pub held_are : held ≡ concat (first ∷ others)

-- What is in a file: the bytes of its blocks. It has a first one: that was on the disk before the file had
-- its name.
pub record Holds (bytes : List ℕ) (number : ℕ) (held : List ℕ) : Type 0 where
  pub first : List ℕ
  pub others : List (List ℕ)
  pub tail : List ℕ
  pub is : IsFile number (first ∷ others) tail bytes
  pub torn : is_damaged number (behind_all 48 (first ∷ others)) tail ≡ false
  pub held_are : held ≡ concat (first ∷ others)

-- a file has another block begun after one that is broken
pub record IsBroken (bytes : List ℕ) (number : ℕ) : Type 0 where
  pub blocks : List (List ℕ)
  pub tail : List ℕ
  pub is : IsFile number blocks tail bytes
  pub more : is_damaged number (behind_all 48 blocks) tail ≡ true

-- Bytes that are no sound file: they begin with no head of a file, or with a head and no whole block, or the
-- file is broken.
abbrev pub IsDamaged : List ℕ → Option ℕ → Type 0
IsDamaged bytes None = Unit {0}
IsDamaged bytes (Some number) =
    ((tail : List ℕ) × IsFile number [] tail bytes) ⊎ IsBroken bytes number
