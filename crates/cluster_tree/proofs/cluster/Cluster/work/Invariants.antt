use Rattle.cluster_tree.specs.Passes.{IsLonger}
use Rattle.cluster_tree.proofs.cluster.Cluster.work.Given as goal

abbrev pub invariant-loop : goal.invariant-loop
invariant-loop g l =
    (goal.iterator-loop g).can_next l.iterator' × (goal.iterator-loop g).is_finite l.iterator'
    × IsLonger l.fn.pass l.pass
