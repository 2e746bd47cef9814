use Rattle.tree_process.specs.Nodes.{core_of, data_of}
use Rattle.tree_world.proofs.Counts.{trimmed_so}
use Rattle.tree_world.proofs.counted.CountedNode.trim.Goals as goal

pub invariant_of-self : goal.invariant_of-self
invariant_of-self g c =
    trimmed_so (core_of c.self.inside.node) (core_of c.trim_sound-made.new.self) (data_of c.self.inside.node)
    (data_of c.trim_sound-made.new.self) c.trim_sound-made.result c.count_after_trim-self-inside.result
    c.trim_sound-made.ensures.ok
    c.count_after_trim-self-inside.ensures.ok c.count_after_trim-self-inside.ensures.err
