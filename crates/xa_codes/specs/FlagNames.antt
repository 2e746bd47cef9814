-- Texts that name flags (C193, `xa.h`).
use Rattle.std.specs.Prelude.{◌≡◌, ℕ, ◌<◌, List, length, map, codes, Option, Some, None, nat_eq, bit_or, if◌then◌else◌}
use Rattle.std.specs.List.{join_with_byte, fold}
use Rattle.std.specs.Cmp.Lexicographic.{pointwise}

-- the bits of the flag with this name
abbrev pub flag_named : List ℕ → Option ℕ
flag_named w =
    if pointwise nat_eq w (codes "TMNOFLAGS") then Some 0
    else if pointwise nat_eq w (codes "TMASYNC") then Some 0x8000_0000
    else if pointwise nat_eq w (codes "TMONEPHASE") then Some 0x4000_0000
    else if pointwise nat_eq w (codes "TMFAIL") then Some 0x2000_0000
    else if pointwise nat_eq w (codes "TMNOWAIT") then Some 0x1000_0000
    else if pointwise nat_eq w (codes "TMRESUME") then Some 0x0800_0000
    else if pointwise nat_eq w (codes "TMSUCCESS") then Some 0x0400_0000
    else if pointwise nat_eq w (codes "TMSUSPEND") then Some 0x0200_0000
    else if pointwise nat_eq w (codes "TMSTARTRSCAN") then Some 0x0100_0000
    else if pointwise nat_eq w (codes "TMENDRSCAN") then Some 0x0080_0000
    else if pointwise nat_eq w (codes "TMMULTIPLE") then Some 0x0040_0000
    else if pointwise nat_eq w (codes "TMJOIN") then Some 0x0020_0000
    else if pointwise nat_eq w (codes "TMMIGRATE") then Some 0x0010_0000
    else if pointwise nat_eq w (codes "TMREGISTER") then Some 1
    else if pointwise nat_eq w (codes "TMNOMIGRATE") then Some 2
    else if pointwise nat_eq w (codes "TMUSEASYNC") then Some 4
    else None

-- a text that is the names of one or more flags, joined by plus signs, and the bitwise or of these flags
abbrev pub IsFlagText : List ℕ → ℕ → Type 0
IsFlagText text bits =
    (names : List (List ℕ)) × (flags : List ℕ) × (0 < length names) × (text ≡ join_with_byte 43 names)
    × (map flag_named names ≡ map Some flags) × (bits ≡ fold bit_or 0 flags)
