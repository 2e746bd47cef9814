use Rattle.audit_engine.proofs.explain.+push_way.Given as goal

abbrev pub decreases-push_way : goal.decreases-push_way
decreases-push_way l = l.most
