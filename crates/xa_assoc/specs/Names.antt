-- When two names of branches are one, and two associations.
use Rattle.std.specs.Prelude.{Bool}
use Rattle.xa_xid.specs.declared.xid.Xid.{Xid}
use Rattle.xa_xid.specs.contracts.xid.XidPartialEq.TheImpl as names
use Rattle.xa_assoc.specs.declared.held.Suspended.{Suspended}
use Rattle.xa_assoc.specs.contracts.held.SuspendedPartialEq.TheImpl as seats

-- two names of branches are one
abbrev pub same : Xid → Xid → Bool
same = names.ghosts.eq

-- two associations are of one thread with one branch
abbrev pub same_seat : Suspended → Suspended → Bool
same_seat = seats.ghosts.eq
