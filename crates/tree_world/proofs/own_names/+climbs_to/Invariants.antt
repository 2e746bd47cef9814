use Rattle.tree_world.proofs.own_names.+climbs_to.Given as goal

abbrev pub decreases-climbs_to : goal.decreases-climbs_to
decreases-climbs_to l = l.steps
