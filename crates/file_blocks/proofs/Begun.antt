-- A file that is read block by block.
use Rattle.std.proofs.Common.{◌≡◌, ◌≤◌, ◌<◌, ◌+◌, ◌-◌, ℕ, Bool, true, false, if◌then◌else◌, nat_lt, List, [], ◌∷◌, ◌++◌, length, take, drop, Option, Some, None, refl, sym, ap, ◌∙◌, arith, append_assoc, append-nil, length-append, take-append-drop}
use Rattle.std.specs.List.{concat}
use Rattle.std.specs.Str.{bytes_eq}
use Rattle.std.proofs.lemmas.Bool.{ltb-false}
use Rattle.std.proofs.lemmas.Slice.Eq.{bytes_eq-Decides}
use Rattle.file_blocks.specs.Blocks.{behind, behind_all, block_text, blocks_text, first_block, is_damaged, number_in}
use Rattle.file_blocks.specs.Files.{Begun, Holds, IsBroken, IsFile, file_head, file_number}
use Rattle.file_blocks.proofs.Reading.{block_size, written}
use Rattle.file_blocks.proofs.OneWay.{file_head_size, goes_behind}

pub concat_more : (ps : List (List ℕ)) (p : List ℕ) → concat (ps ++ p ∷ []) ≡ concat ps ++ p
concat_more [] p = append-nil p
concat_more (q ∷ qs) p = ap (λ t. q ++ t) (concat_more qs p) ∙ sym (append_assoc q (concat qs) p)

pub behind_more : (place : ℕ) (ps : List (List ℕ)) (p : List ℕ)
    → behind_all place (ps ++ p ∷ []) ≡ behind (behind_all place ps) p
behind_more place [] p = refl
behind_more place (q ∷ qs) p = behind_more (behind place q) qs p

some_else : (b : Bool) (o : Option ℕ) (n : ℕ) → (if b then None else o) ≡ Some n → (b ≡ false) × (o ≡ Some n)
some_else true o n e = absurd (cc)
some_else false o n e = (refl, e)

some_then : (b : Bool) (m n : ℕ) → (if b then Some m else None) ≡ Some n → (b ≡ true) × (m ≡ n)
some_then true m n e = (refl, cc)
some_then false m n e = absurd (cc)

-- bytes with a number begin with the head of a file
pub head_of_number : (bytes : List ℕ) (n : ℕ) → file_number bytes ≡ Some n
    → (48 ≤ length bytes) × (take 48 bytes ≡ file_head n)
head_of_number bytes n e =
    let m = number_in (drop 8 bytes) in
    let long = some_else (nat_lt (length bytes) 48)
    (if bytes_eq (file_head m) (take 48 bytes) then Some m else None) n e in
    let same = some_then (bytes_eq (file_head m) (take 48 bytes)) m n long.1 in (
      ltb-false (length bytes) 48 long.0,
      sym ((bytes_eq-Decides (file_head m) (take 48 bytes)).0 same.0) ∙ ap file_head same.1,
    )

-- what is after the head of a file
pub head_and_blocks : (bytes : List ℕ) (number : ℕ) → take 48 bytes ≡ file_head number
    → bytes ≡ file_head number ++ drop 48 bytes
head_and_blocks bytes number e = sym (take-append-drop 48 bytes) ∙ ap (λ t. t ++ drop 48 bytes) e

-- the first block was read
pub begun_first : (bytes : List ℕ) (number : ℕ) (payload more : List ℕ) → take 48 bytes ≡ file_head number
    → first_block number 48 (drop 48 bytes) ≡ Some (payload, more)
    → Begun bytes number more payload
begun_first bytes number payload more e found =
    let is : drop 48 bytes ≡ block_text number 48 payload ++ more =
    written number 48 payload more (drop 48 bytes) found in
    let text : bytes ≡ file_head number ++ (blocks_text number 48 (payload ∷ []) ++ more) =
    head_and_blocks bytes number e
    ∙ ap (λ t. file_head number ++ t) is
    ∙ ap (λ t. file_head number ++ (t ++ more)) (sym (append-nil (block_text number 48 payload))) in
    record {
      first = payload;
      others = [];
      text = text;
      place = omega (
        arith,
        ap length (head_and_blocks bytes number e),
        length-append (file_head number) (drop 48 bytes),
        file_head_size number,
        ap length is,
        length-append (block_text number 48 payload) more,
        block_size number 48 payload,
      );
      held_are = sym (append-nil payload);
    }

-- no first block is there
pub begun_none : (bytes : List ℕ) (number : ℕ) → take 48 bytes ≡ file_head number
    → first_block number 48 (drop 48 bytes) ≡ None
    → (tail : List ℕ) × IsFile number [] tail bytes
begun_none bytes number e none =
    (drop 48 bytes, record { text = head_and_blocks bytes number e; ends = none })

-- one block more was read
pub begun_more : (bytes : List ℕ) (number place : ℕ) (rest held payload more : List ℕ)
    → Begun bytes number rest held → place ≡ length bytes - length rest
    → first_block number place rest ≡ Some (payload, more)
    → Begun bytes number more (held ++ payload) × (length more < length rest)
begun_more bytes number place rest held payload more b at e =
    let blocks = b.first ∷ b.others in
    let here : place ≡ behind_all 48 blocks = omega (arith, at, b.place) in
    let is : rest ≡ block_text number (behind_all 48 blocks) payload ++ more =
    written number place payload more rest e
    ∙ ap (λ n. block_text number n payload ++ more) here in
    let size : length rest ≡ 72 + length payload + length more = omega (
      arith,
      ap length is,
      length-append (block_text number (behind_all 48 blocks) payload) more,
      block_size number (behind_all 48 blocks) payload,
    ) in
    let text : blocks_text number 48 blocks ++ rest
    ≡ blocks_text number 48 (blocks ++ payload ∷ []) ++ more =
    ap (λ t. blocks_text number 48 blocks ++ t) is
    ∙ sym (append_assoc (blocks_text number 48 blocks)
    (block_text number (behind_all 48 blocks) payload) more)
    ∙ ap (λ t. t ++ more) (sym (goes_behind number 48 blocks payload)) in (
      record {
        first = b.first;
        others = b.others ++ payload ∷ [];
        text = b.text ∙ ap (λ t. file_head number ++ t) text;
        place = omega (arith, behind_more 48 blocks payload, size, b.place);
        held_are = ap (λ t. t ++ payload) b.held_are ∙ sym (concat_more blocks payload);
      },
      omega (arith, size),
    )

-- all was read
pub begun_all : (bytes : List ℕ) (number place : ℕ) (rest held : List ℕ) → Begun bytes number rest held
    → place ≡ length bytes - length rest → first_block number place rest ≡ None
    → is_damaged number place rest ≡ false → Holds bytes number held
begun_all bytes number place rest held b at e sound =
    let here : place ≡ behind_all 48 (b.first ∷ b.others) = omega (arith, at, b.place) in
    record {
      first = b.first;
      others = b.others;
      tail = rest;
      is = record { text = b.text; ends = ap (λ n. first_block number n rest) (sym here) ∙ e };
      torn = ap (λ n. is_damaged number n rest) (sym here) ∙ sound;
      held_are = b.held_are;
    }

pub begun_broken : (bytes : List ℕ) (number place : ℕ) (rest held : List ℕ) → Begun bytes number rest held
    → place ≡ length bytes - length rest → first_block number place rest ≡ None
    → is_damaged number place rest ≡ true → IsBroken bytes number
begun_broken bytes number place rest held b at e more =
    let here : place ≡ behind_all 48 (b.first ∷ b.others) = omega (arith, at, b.place) in
    record {
      blocks = b.first ∷ b.others;
      tail = rest;
      is = record { text = b.text; ends = ap (λ n. first_block number n rest) (sym here) ∙ e };
      more = ap (λ n. is_damaged number n rest) (sym here) ∙ more;
    }
