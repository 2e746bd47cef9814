-- When two names of branches are one.
use Rattle.std.specs.Prelude.{Bool}
use Rattle.xa_xid.specs.declared.xid.Xid.{Xid}
use Rattle.xa_xid.specs.contracts.xid.XidPartialEq.TheImpl as names

-- two names of branches are one
abbrev pub same : Xid → Xid → Bool
same = names.ghosts.eq
