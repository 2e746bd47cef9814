-- The parts of an XID, and which parts make one.
use Rattle.std.specs.Prelude.{◌≡◌, ℕ, ◌<◌, ◌==◌, ◌&&◌, ◌||◌, nat_lt, int_lt, ℤ, pos, negsuc, List, [], length, Option, Some, None, if◌then◌else◌}
use Rattle.std.specs.Ordering.{int_eq}
use Rattle.std.specs.Int.{w32}
use Rattle.std.specs.Int.RustNames.{FitsSigned}
use Rattle.std.specs.List.{All}
use Rattle.xa_xid.specs.declared.error.XidError.{XidError}
use Rattle.xa_xid.specs.declared.error.XidError.TheVariants.{BadFormat, GtridLength, BqualLength}

-- the parts of an XID
pub record XidParts : Type 0 where
  pub format : ℤ
  pub gtrid : List ℕ
  pub bqual : List ℕ

-- parts that a 32-bit number and bytes can be
pub record FitsParts (x : XidParts) : Type 0 where
  pub format : FitsSigned w32 x.format
  pub gtrid : All (λ b. b < 256) x.gtrid
  pub bqual : All (λ b. b < 256) x.bqual

-- the null XID, which names no branch
abbrev pub null_xid : XidParts
null_xid = record { format = negsuc 0; gtrid = []; bqual = [] }

-- why a format and two lengths name no branch: the first of the three that is wrong
abbrev pub branch_fault : ℤ → ℕ → ℕ → Option XidError
branch_fault format gtrid bqual =
    if int_lt format (pos 0) then Some BadFormat
    else if gtrid == 0 || nat_lt 64 gtrid then Some GtridLength
    else if nat_lt 64 bqual then Some BqualLength
    else None

-- why a format and two lengths are those of no XID, be it null or name a branch
abbrev pub xid_fault : ℤ → ℕ → ℕ → Option XidError
xid_fault format gtrid bqual =
    if int_eq format (negsuc 0) && gtrid == 0 && bqual == 0 then None
    else branch_fault format gtrid bqual

-- what an XID is: parts in which nothing is wrong
pub record IsXid (x : XidParts) : Type 0 where
  pub fits : FitsParts x
  pub sound : xid_fault x.format (length x.gtrid) (length x.bqual) ≡ None
