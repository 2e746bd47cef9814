-- The number that stands for an XID in a hash: of all its bytes, eight at a time.
use Rattle.std.specs.Prelude.{ℕ, ◌*◌, ◌%◌, ◌^◌, List, length, take, bit_xor}
use Rattle.std.specs.Int.{w32, w64, from_le_bytes, cast_unsigned, rotate_left, div_ceil}
use Rattle.std.specs.List.{fold}
use Rattle.std.specs.Simd.{first_chunks}
use Rattle.xa_xid.specs.Part.{filled}
use Rattle.xa_xid.specs.Xids.{XidParts}

-- a digest with one more number mixed in
unfoldable pub mixed : ℕ → ℕ → ℕ
mixed digest number = (bit_xor (rotate_left w64 digest 29) number * 0x9e37_79b9_7f4a_7c15) % 2 ^ 64

-- a digest with eight more bytes mixed in, read as a number, the lowest first
abbrev pub mixed_bytes : ℕ → List ℕ → ℕ
mixed_bytes digest bytes = mixed digest (from_le_bytes w64 bytes)

-- the bytes of a part, eight at a time, with zeros after the last ones
unfoldable pub eights : List ℕ → List (List ℕ)
eights part = take (div_ceil (length part) 8) (first_chunks 8 8 (filled part))

-- a digest with a part mixed in: its length, then its bytes
unfoldable pub part_digest : ℕ → List ℕ → ℕ
part_digest digest part = fold mixed_bytes (mixed digest (length part)) (eights part)

-- the digest of an XID: its format, then its two parts
unfoldable pub xid_digest : XidParts → ℕ
xid_digest x = part_digest (part_digest (cast_unsigned w32 x.format) x.gtrid) x.bqual
