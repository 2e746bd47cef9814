-- Blocks: how what one force covers is in a file.
use Rattle.std.specs.Prelude.{◌+◌, ℕ, Bool, false, nat_lt, ◌||◌, if◌then◌else◌, List, [], ◌∷◌, ◌++◌, length, take, drop, Option, Some, None}
use Rattle.std.specs.Str.{bytes_eq}
use Rattle.byteorder.specs.Endian.{big_bytes, big_number}
use Rattle.sha2.specs.Sha256.{sha256}

-- Writing.

-- a number in eight bytes, the highest first
unfoldable pub number_text : ℕ → List ℕ
number_text n = big_bytes 8 n

-- the number in the first eight bytes
unfoldable pub number_in : List ℕ → ℕ
number_in bytes = big_number 8 bytes

-- how many bytes a block has, and their digest
unfoldable pub label : List ℕ → List ℕ
label payload = number_text (length payload) ++ sha256 payload

-- the digest of a label at this place of the file with this number
unfoldable pub seal : ℕ → ℕ → List ℕ → List ℕ
seal number place text = sha256 ((number_text number ++ number_text place) ++ text)

-- what is before a block's bytes
abbrev pub head_text : ℕ → ℕ → List ℕ → List ℕ
head_text number place payload = label payload ++ seal number place (label payload)

-- a block
abbrev pub block_text : ℕ → ℕ → List ℕ → List ℕ
block_text number place payload = head_text number place payload ++ payload

-- the place after a block of these bytes
abbrev pub behind : ℕ → List ℕ → ℕ
behind place payload = place + (72 + length payload)

-- blocks, one after the other
abbrev pub blocks_text : ℕ → ℕ → List (List ℕ) → List ℕ
blocks_text number place [] = []
blocks_text number place (p ∷ ps) = block_text number place p ++ blocks_text number (behind place p) ps

-- the place after these blocks
abbrev pub behind_all : ℕ → List (List ℕ) → ℕ
behind_all place [] = place
behind_all place (p ∷ ps) = behind_all (behind place p) ps

-- Reading.

-- the block whose head is this and which has N of these bytes: its bytes, and what is after it
abbrev pub whole_block : ℕ → ℕ → List ℕ → ℕ → List ℕ → Option (List ℕ × List ℕ)
whole_block number place head size rest =
    if nat_lt (length rest) size then None
    else (if bytes_eq (head_text number place (take size rest)) head
    then Some (take size rest, drop size rest)
    else None)

-- the block with which these bytes begin at this place, and what is after it: none where it is not whole
abbrev pub first_block : ℕ → ℕ → List ℕ → Option (List ℕ × List ℕ)
first_block number place bytes =
    if nat_lt (length bytes) 72 then None
    else whole_block number place (take 72 bytes) (number_in (take 72 bytes)) (drop 72 bytes)

-- Damage.

-- these bytes begin with the head of a block of this file at this place, whether or not the block is whole
abbrev pub is_head : ℕ → ℕ → List ℕ → Bool
is_head number place bytes =
    if nat_lt (length bytes) 72 then false
    else bytes_eq (seal number place (take 40 bytes)) (take 32 (drop 40 bytes))

-- such a head stands somewhere in these bytes
abbrev pub has_head : ℕ → ℕ → List ℕ → Bool
has_head number place [] = false
has_head number place (b ∷ bs) = is_head number place (b ∷ bs) || has_head number (place + 1) bs

-- After the last whole block a head of this file stands: another block was begun after one that is broken,
-- and so that one was safe. Where the broken block's own head is sound its bytes are passed over.
abbrev pub is_damaged : ℕ → ℕ → List ℕ → Bool
is_damaged number place tail =
    if is_head number place tail
    then has_head number (place + (72 + number_in (take 72 tail)))
    (drop (number_in (take 72 tail)) (drop 72 tail))
    else has_head number place tail
