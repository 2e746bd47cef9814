use Rattle.kv_locks.proofs.Tables.{kept_nothing}
use Rattle.kv_locks.proofs.locks.Locks.new.Goals as goal

pub invariant_of-result : goal.invariant_of-result
invariant_of-result c = kept_nothing _ _ c.new.ensures.empty c.new-2.ensures.empty
