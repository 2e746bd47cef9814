use Rattle.std.proofs.lemmas.Result.{on_ok_weaker}
use Rattle.cluster_tree.proofs.cluster.Cluster.settle.Goals as goal

pub returns-clause-settled : goal.returns-clause-settled
returns-clause-settled g c = on_ok_weaker c.ended.result c.work-is_settled.ensures.settled c.ended.ensures.ok
