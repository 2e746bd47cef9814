use Rattle.test_base.proofs.votes.told.Goals as goal

pub open-requires-clause-new : goal.open-requires-clause-new
open-requires-clause-new c = c.new-manager.ensures.fresh c.in-Ok.ensures.ok
