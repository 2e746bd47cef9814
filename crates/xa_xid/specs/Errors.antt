-- The numbers of refusals.
use Rattle.std.specs.Prelude.{ℕ}
use Rattle.xa_xid.specs.declared.error.XidError.{XidError}
use Rattle.xa_xid.specs.declared.error.XidError.TheVariants.{BadFormat, GtridLength, BqualLength, Truncated, Trailing, Syntax}

-- the number of a refusal
abbrev pub xid_error_number : XidError → ℕ
xid_error_number BadFormat = 1
xid_error_number GtridLength = 2
xid_error_number BqualLength = 3
xid_error_number Truncated = 4
xid_error_number Trailing = 5
xid_error_number Syntax = 6
