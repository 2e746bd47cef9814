use Rattle.audit_engine.proofs.chains.+push_steps.Given as goal

abbrev pub decreases-push_steps : goal.decreases-push_steps
decreases-push_steps l = l.most
