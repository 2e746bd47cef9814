-- Numbers in decimal without leading zeros.
use Rattle.std.specs.Prelude.{ℕ, ◌^◌, List, [], ◌∷◌, length, Bool, false, ◌&&◌, Option, Some, None, nat_lt, ◌==◌, if◌then◌else◌}
use Rattle.std.specs.List.{list_all}
use Rattle.std.specs.Char.{is_ascii_digit}
use Rattle.std.specs.Str.Parse.{digits_value}

-- one or more digits, the first of them no zero unless it is the only one
abbrev pub is_numeral : List ℕ → Bool
is_numeral [] = false
is_numeral (b ∷ bs) = if b == 48 then length bs == 0 else list_all is_ascii_digit (b ∷ bs)

-- the number below 2^64 that such digits spell
unfoldable pub number_at : List ℕ → Option ℕ
number_at bs =
    if is_numeral bs && nat_lt (digits_value 10 bs) (2 ^ 64) then Some (digits_value 10 bs) else None
