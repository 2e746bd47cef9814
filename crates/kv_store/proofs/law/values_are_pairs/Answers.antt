use Rattle.kv_store.proofs.Pairs.{same_pairs}
use Rattle.kv_store.proofs.law.values_are_pairs.Goals as goal

pub returns : goal.returns
returns c = same_pairs
