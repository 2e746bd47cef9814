use Rattle.cluster_tree.proofs.Seating.{names_next}
use Rattle.cluster_tree.proofs.opening.names.Goals as goal

pub loop-entry-preserved : goal.loop-entry-preserved
loop-entry-preserved c =
    names_next c.args.tree.now c.loop-entry.entry-index c.entry-item.result c.loop-entry.names.items
    c.push.new.self.items c.loop-entry-test.true c.entry-item.is c.in_ok-push.ensures.items
    c.loop-entry.invariant
