use Rattle.std.proofs.Common.{◌-◌, length}
use Rattle.tree_world.proofs.reopening.+restart_from.Given as goal

abbrev pub decreases-restart_from : goal.decreases-restart_from
decreases-restart_from g l = length l.tree.now - l.place
