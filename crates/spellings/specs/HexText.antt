-- Bytes in lower-case hexadecimal.
use Rattle.std.specs.Prelude.{◌≡◌, ℕ, ◌<◌, List, Bool, ◌&&◌, ◌||◌, nat_le}
use Rattle.std.specs.List.{All}
use Rattle.hex.specs.Hex.{encode_lower}

-- a digit of hexadecimal in lower case
abbrev pub is_lower_digit : ℕ → Bool
is_lower_digit c = (nat_le 48 c && nat_le c 57) || (nat_le 97 c && nat_le c 102)

-- a text that spells these bytes
pub record Spells (text : List ℕ) (bytes : List ℕ) : Type 0 where
  pub fits : All (λ b. b < 256) bytes
  pub spelled : text ≡ encode_lower bytes

-- a text of bytes in lower-case hexadecimal
abbrev pub IsHexadecimal : List ℕ → Type 0
IsHexadecimal text = (bytes : List ℕ) × Spells text bytes
