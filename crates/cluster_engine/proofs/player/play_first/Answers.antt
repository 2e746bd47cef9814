use Rattle.cluster_engine.proofs.Making.{as_they_were}
use Rattle.cluster_engine.proofs.player.play_first.Goals as goal

pub returns-then-is_empty-clause-others : goal.returns-then-is_empty-clause-others
returns-then-is_empty-clause-others g c = as_they_were c.args.others.now
