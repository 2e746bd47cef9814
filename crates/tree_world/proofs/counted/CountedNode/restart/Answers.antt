use Rattle.tree_process.specs.Nodes.{core_of, data_of}
use Rattle.tree_world.proofs.Counts.{restarted_so}
use Rattle.tree_world.proofs.counted.CountedNode.restart.Goals as goal

pub invariant_of-self : goal.invariant_of-self
invariant_of-self g c =
    restarted_so (core_of c.self.inside.node) (core_of c.restart_keeping-made.new.self)
    (data_of c.self.inside.node)
    (data_of c.restart_keeping-made.new.self) c.args.before (rw c.self.view_is c.requires) c.args.bytes
    c.restart_keeping-made.result c.count_after_restart-self-inside.result c.restart_keeping-made.ensures.ok
    c.count_after_restart-self-inside.ensures.ok c.count_after_restart-self-inside.ensures.err
