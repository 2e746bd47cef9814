use Rattle.std.proofs.Common.{length}
use Rattle.kv_state.proofs.Holding.{IsLocking}
use Rattle.kv_state.proofs.promises.lock.Given as goal

abbrev pub invariant-loop-rest : goal.invariant-loop-rest
invariant-loop-rest l = IsLocking l.fn.locks l.locks l.fn.xid l.fn.writes l.rest

abbrev pub decreases-loop-rest : goal.decreases-loop-rest
decreases-loop-rest l = length l.rest
