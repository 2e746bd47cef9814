use Rattle.kv_store.proofs.Pairs.{writes_pairs}
use Rattle.kv_store.proofs.law.writes_leave_pairs.Goals as goal

pub returns : goal.returns
returns c = writes_pairs
