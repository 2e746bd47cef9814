use Rattle.std.proofs.Common.{drop}
use Rattle.kv_state.proofs.Holding.{IsRestoring}
use Rattle.kv_state.proofs.promises.restore.Given as goal

abbrev pub invariant-loop-xid : goal.invariant-loop-xid
invariant-loop-xid l = IsRestoring l.fn.seen (drop l.xid-index l.fn.left) l.writes l.locks
