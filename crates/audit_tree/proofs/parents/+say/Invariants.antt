use Rattle.audit_tree.proofs.parents.+say.Given as goal

abbrev pub decreases-say : goal.decreases-say
decreases-say l = l.steps
