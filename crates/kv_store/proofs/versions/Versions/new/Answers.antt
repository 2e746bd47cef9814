use Rattle.kv_store.proofs.Tables.{kept_nothing}
use Rattle.kv_store.proofs.versions.Versions.new.Goals as goal

pub invariant_of-result : goal.invariant_of-result
invariant_of-result c = kept_nothing c.args.count _ c.new.ensures.empty
