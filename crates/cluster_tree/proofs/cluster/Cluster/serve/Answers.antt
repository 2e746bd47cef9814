use Rattle.std.proofs.Common.{rules}
use Rattle.cluster_tree.proofs.Passing.{as_long, longer_still}
use Rattle.cluster_tree.proofs.cluster.Cluster.serve.Goals as goal

pub loop-init : goal.loop-init
loop-init g c = (search rules, search rules, as_long _)

pub loop-preserved : goal.loop-preserved
loop-preserved g c = (
  search rules,
  search rules,
  longer_still _ _ _ c.loop.invariant.2 c.deliver_from.ensures,
)
