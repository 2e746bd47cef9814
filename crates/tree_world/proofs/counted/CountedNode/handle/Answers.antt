use Rattle.process_state.specs.Inputs.{input_of}
use Rattle.tree_process.specs.Nodes.{core_of, data_of}
use Rattle.tree_world.proofs.Counts.{handled_count}
use Rattle.tree_world.proofs.counted.CountedNode.handle.Goals as goal

pub invariant_of-self : goal.invariant_of-self
invariant_of-self g c =
    handled_count (core_of c.self.inside.node) (core_of c.handle-made.new.self) (data_of c.self.inside.node)
    (data_of c.handle-made.new.self) c.args.before (rw c.self.view_is c.requires) (input_of c.args.input)
    c.handle-made.result
    c.count_after-self-inside.result c.handle-made.ensures.ok c.handle-made.ensures.err
    c.count_after-self-inside.ensures.ok c.count_after-self-inside.ensures.err
