-- The spelling of XIDs in text.
use Rattle.std.specs.Prelude.{◌≡◌, ℕ, ℤ, List, ◌++◌, length, codes, Some}
use Rattle.std.specs.Fmt.{signed_decimal}
use Rattle.hex.specs.Hex.{encode_lower}
use Rattle.xa_xid.specs.declared.error.XidError.{XidError}
use Rattle.xa_xid.specs.declared.error.XidError.TheVariants.{Syntax}
use Rattle.spellings.specs.HexText.{Spells}
use Rattle.xa_xid.specs.Xids.{XidParts, FitsParts, xid_fault}

-- the text of an XID: its format in decimal, gtrid and bqual in hexadecimal, with colons between them
abbrev pub xid_text : XidParts → List ℕ
xid_text x = signed_decimal x.format ++ codes ":" ++ encode_lower x.gtrid ++ codes ":" ++ encode_lower x.bqual

-- a text that spells parts, and the pieces of it that do
pub record ArePieces (text : List ℕ) (format : ℤ) (gtrid bqual : List ℕ) (x : XidParts) : Type 0 where
  pub fits : FitsParts x
  pub spelled : text ≡ xid_text x
  pub same_format : format ≡ x.format
  pub same_gtrid : Spells gtrid x.gtrid
  pub same_bqual : Spells bqual x.bqual

-- why a text is no XID: it spells no parts at all, or parts of which this is the first fault
abbrev pub IsTextFault : List ℕ → XidError → Type 0
IsTextFault text Syntax = (x : XidParts) → FitsParts x → text ≡ xid_text x → ⊥
IsTextFault text error =
    (x : XidParts) × FitsParts x × (text ≡ xid_text x)
    × (xid_fault x.format (length x.gtrid) (length x.bqual) ≡ Some error)
