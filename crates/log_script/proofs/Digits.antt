-- The digits of bytes, as the code tests and decodes them.
use Rattle.std.proofs.Common.{◌≡◌, ◌*◌, ◌/◌, ◌%◌, ℕ, true, false, eqb, Some, None, Ok, List, length, refl, arith, not, inl, inr}
use Rattle.std.specs.List.{list_all}
use Rattle.std.proofs.lemmas.Bool.{cases_Bool, and_parts, eqb-true}
use Rattle.std.proofs.lemmas.Bool.Decides.{nat_tests}
use Rattle.hex.specs.Hex.{decode_sized}
use Rattle.spellings.specs.HexText.{Spells, IsHexadecimal, is_lower_digit}
use Rattle.spellings.proofs.HexText.{spells_some, spelled_lower, spelled_even, decodes}
use Rattle.log_script.specs.Lines.{are_digits, bytes_at}

pub none_empty : (w : List ℕ) → eqb (length w) 0 ≡ true → None ≡ bytes_at w
unfolding bytes_at
none_empty w e = rw e refl

pub none_strange : (w : List ℕ) → (IsHexadecimal w → ⊥) → None ≡ bytes_at w
unfolding bytes_at
none_strange w unspelled =
    elim (cases_Bool (are_digits w)) [
      | inl digits ↦ absurd (
          let parts = and_parts (not (eqb (length w) 0)) _ digits in
          let more = and_parts (eqb (length w % 2) 0) (list_all is_lower_digit w) parts.1 in
          unspelled (spells_some w (eqb-true _ _ more.0) more.1))
      | inr strange ↦ rw strange refl
    ]

pub some_bytes : (w bytes : List ℕ) → eqb (length w) 0 ≡ false → Spells w bytes → Some bytes ≡ bytes_at w
unfolding bytes_at
some_bytes w bytes some h =
    let zero : length w % 2 ≡ 0 = spelled_even w (bytes, h) in
    let even : eqb (length w % 2) 0 ≡ true = grind (arith, nat_tests) in
    let d : decode_sized w (length w / 2) ≡ Ok bytes =
    decodes w bytes (length w / 2) h (omega (arith, zero)) in
    rw (some, even, spelled_lower w (bytes, h), d) refl

pub half : (w : List ℕ) → IsHexadecimal w → length w ≡ 2 * (length w / 2)
half w h = let zero = spelled_even w h in omega arith
