-- In which boot a case was numbered, and logs that name no case of a boot that they had not reached.
use Rattle.std.specs.Prelude.{ℕ, Bool, true, ◌&&◌, nat_le, Option, Some, None, List, [], ◌∷◌}
use Rattle.protocol.specs.declared.names.Case.{Case}
use Rattle.protocol.specs.declared.names.Ticket.{Ticket}
use Rattle.protocol.specs.declared.names.Txn.{Txn}
use Rattle.protocol.specs.declared.records.Record.{Record}
use Rattle.protocol.specs.Records.{boot_after, record_case}

-- the boot that gave the ticket, or where there is none the one that began the transaction
abbrev pub numbered_by : Txn → Option Ticket → ℕ
numbered_by x None = x.boot
numbered_by x (Some t) = t.boot

-- the boot in which the case was numbered
abbrev pub numbered_in : Case → ℕ
numbered_in c = numbered_by c.txn c.ticket

-- the case, if there is one, was numbered in this boot or an earlier one
abbrev pub is_reached : ℕ → Option Case → Bool
is_reached b None = true
is_reached b (Some c) = nat_le (numbered_in c) b

-- the record may stand where the log has reached this boot: it is of a case that was numbered by then, and
-- takes no boot back
abbrev pub may_stand : ℕ → Record → Bool
may_stand b r = is_reached b (record_case r) && nat_le b (boot_after b r)

-- each of these records may be after those before it, where the log has reached this boot
unfoldable pub are_numbered : ℕ → List Record → Bool
are_numbered b [] = true
are_numbered b (r ∷ rs) = may_stand b r && are_numbered (boot_after b r) rs
