use Rattle.kv_store.proofs.writes.Tables.{kept_nothing}
use Rattle.kv_store.proofs.writes.branches.BranchWrites.new.Goals as goal

pub invariant_of-result : goal.invariant_of-result
invariant_of-result c = kept_nothing _ c.new.ensures.empty
