use Rattle.std.proofs.Common.{◌-◌, length}
use Rattle.tree_world.proofs.reopening.+ready_from.Given as goal

abbrev pub decreases-ready_from : goal.decreases-ready_from
decreases-ready_from g l = length l.tree.now - l.place
