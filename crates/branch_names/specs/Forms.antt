-- The forms in which an XID is printed.
use Rattle.std.specs.Prelude.{◌≡◌, ◌⊎◌, ◌^◌, ℕ, ℤ, pos, nat_lt, List, [], length, Option, Some, None, Result, Ok, Err, if◌then◌else◌}
use Rattle.base64.specs.Engines.{standard}
use Rattle.base64.specs.GeneralPurpose.{decode_of as base64_decode}
use Rattle.hex.specs.Hex.{decode_of as hex_decode}
use Rattle.spellings.specs.Numerals.{number_at}
use Rattle.spellings.specs.Words.{cut_at}
use Rattle.script_words.specs.Steps.{◌>>=◌}
use Rattle.tree_script.specs.Names.{after_at}
use Rattle.xa_xid.specs.declared.error.XidError.{XidError}
use Rattle.xa_xid.specs.Text.{xid_text}
use Rattle.xa_xid.specs.Xids.{IsXid, XidParts, branch_fault}

-- what was read, if it could be
abbrev pub read_of : {A E : Type 0} → Result A E → Option A
read_of (Ok a) = Some a
read_of (Err e) = None

-- the bytes that digits in hexadecimal spell, in upper or lower case
abbrev pub hex_at : List ℕ → Option (List ℕ)
hex_at digits = read_of (hex_decode digits)

-- the bytes that a text in Base64 spells
abbrev pub base64_at : List ℕ → Option (List ℕ)
base64_at text = read_of (base64_decode standard text)

-- the number of a format: below 2^31
abbrev pub format_at : List ℕ → Option ℤ
format_at w = do
  n ← number_at w
  if nat_lt n (2 ^ 31) then Some (pos n) else None

-- these parts, if nothing is wrong with them
abbrev pub parts_by : Option XidError → ℤ → List ℕ → List ℕ → Option XidParts
parts_by (Some fault) f g b = None
parts_by None f g b = Some (record { format = f; gtrid = g; bqual = b })

-- these parts, if they name a branch
abbrev pub named_parts : ℤ → List ℕ → List ℕ → Option XidParts
named_parts f g b = parts_by (branch_fault f (length g) (length b)) f g b

-- what is between `X'` and `'`, and the rest after it
abbrev pub quoted_at : List ℕ → Option (List ℕ × List ℕ)
quoted_at w = do
  rest ← after_at 88 w
  text ← after_at 39 rest
  cut_at 39 text

-- the texts of a line `X'GTRID',X'BQUAL',FORMAT`, and its format
abbrev pub sql_parts_at : List ℕ → Option (List ℕ × (List ℕ × ℤ))
sql_parts_at w = do
  g ← quoted_at w
  r ← after_at 44 g.1
  b ← quoted_at r
  s ← after_at 44 b.1
  f ← format_at s
  Some (g.0, (b.0, f))

-- the XID of a line as MariaDB prints it: gtrid and bqual in hexadecimal, and the format
unfoldable pub sql_at : List ℕ → Option XidParts
sql_at w = do
  p ← sql_parts_at w
  gtrid ← hex_at p.0
  bqual ← hex_at p.1.0
  named_parts p.1.1 gtrid bqual

-- the format of a line `FORMAT_GTRID_BQUAL`, and its texts
abbrev pub driver_parts_at : List ℕ → Option (ℤ × (List ℕ × List ℕ))
driver_parts_at w = do
  f ← cut_at 95 w
  p ← cut_at 95 f.1
  n ← format_at f.0
  Some (n, p)

-- the XID of a line as PostgreSQL's JDBC driver names it: the format, and gtrid and bqual in Base64
unfoldable pub driver_at : List ℕ → Option XidParts
driver_at w = do
  p ← driver_parts_at w
  gtrid ← base64_at p.1.0
  bqual ← base64_at p.1.1
  named_parts p.0 gtrid bqual

-- the first, or else the second
abbrev pub or_else : Option XidParts → Option XidParts → Option XidParts
or_else (Some x) other = Some x
or_else None other = other

-- the line is the text of no XID
abbrev pub IsNoText : List ℕ → Type 0
IsNoText line = (x : XidParts) → IsXid x → line ≡ xid_text x → ⊥

-- This is the XID of a line, if it has one: the one of which it is the text; or, if it is no XID's text, the
-- one that is printed so by a database.
abbrev pub IsXidOf : List ℕ → Option XidParts → Type 0
IsXidOf line None = IsNoText line × (or_else (sql_at line) (driver_at line) ≡ None)
IsXidOf line (Some x) = (IsXid x × (line ≡ xid_text x))
    ⊎ (IsNoText line × (or_else (sql_at line) (driver_at line) ≡ Some x))
