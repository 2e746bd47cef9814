use Rattle.kv_locks.proofs.Tables.{kept_nothing}
use Rattle.kv_locks.proofs.locks.Locks.clear.Goals as goal

pub invariant_of-self : goal.invariant_of-self
invariant_of-self c = kept_nothing _ _ c.clear.ensures.empty c.clear-2.ensures.empty
