-- The spelling of XIDs in bytes.
use Rattle.std.specs.Prelude.{ℕ, ◌+◌, ℤ, List, [], ◌∷◌, ◌++◌, length, take, drop, nat_lt, Option, Some, None, if◌then◌else◌}
use Rattle.std.specs.Int.{w32, to_be_bytes, from_be_bytes, cast_signed, cast_unsigned}
use Rattle.std.specs.Option.{option_or}
use Rattle.xa_xid.specs.declared.error.XidError.{XidError}
use Rattle.xa_xid.specs.declared.error.XidError.TheVariants.{Truncated, Trailing}
use Rattle.xa_xid.specs.Xids.{XidParts, null_xid, xid_fault}

-- the bytes of an XID: its format, high byte first, the lengths of gtrid and bqual, gtrid, bqual
abbrev pub xid_bytes : XidParts → List ℕ
xid_bytes x =
    to_be_bytes w32 (cast_unsigned w32 x.format) ++ (length x.gtrid ∷ length x.bqual ∷ []) ++ x.gtrid
    ++ x.bqual

-- the format that four bytes spell
abbrev pub format_of : List ℕ → ℤ
format_of bytes = cast_signed w32 (from_be_bytes w32 bytes)

-- why no XID begins these bytes: fewer than six of them, the format, the lengths, or what is there of the
-- rest
abbrev pub front_fault : List ℕ → Option XidError
front_fault (a ∷ b ∷ c ∷ d ∷ gtrid ∷ bqual ∷ rest) =
    option_or (xid_fault (format_of (a ∷ b ∷ c ∷ d ∷ [])) gtrid bqual)
    (if nat_lt (length rest) (gtrid + bqual) then Some Truncated else None)
front_fault _ = Some Truncated

-- the parts of the XID that begins these bytes
abbrev pub front_parts : List ℕ → XidParts
front_parts (a ∷ b ∷ c ∷ d ∷ gtrid ∷ bqual ∷ rest) =
    record {
      format = format_of (a ∷ b ∷ c ∷ d ∷ []);
      gtrid = take gtrid rest;
      bqual = take bqual (drop gtrid rest);
    }
front_parts _ = null_xid

-- why these bytes are no XID: no XID begins them, or there is more after it
abbrev pub bytes_fault : List ℕ → Option XidError
bytes_fault bytes =
    option_or (front_fault bytes)
    (if nat_lt (length (xid_bytes (front_parts bytes))) (length bytes) then Some Trailing else None)
