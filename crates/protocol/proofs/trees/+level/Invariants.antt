use Rattle.protocol.proofs.trees.+level.Given as goal

abbrev pub decreases-level : goal.decreases-level
decreases-level l = l.steps
