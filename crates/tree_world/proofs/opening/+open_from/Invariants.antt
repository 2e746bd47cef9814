use Rattle.std.proofs.Common.{◌-◌, length}
use Rattle.tree_world.proofs.opening.+open_from.Given as goal

abbrev pub decreases-open_from : goal.decreases-open_from
decreases-open_from g l = length l.tree.now - l.place
