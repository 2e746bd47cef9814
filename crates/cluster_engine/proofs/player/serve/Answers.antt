use Rattle.cluster_engine.proofs.Making.{as_they_were, each_longer}
use Rattle.cluster_engine.proofs.player.serve.Goals as goal

pub returns-then-is_empty : goal.returns-then-is_empty
returns-then-is_empty g c = as_they_were c.args.passes.now

pub returns : goal.returns
returns g c =
    each_longer c.args.passes.now c.serve_each.new.passes c.serve_each.ensures.long
    c.serve_each.ensures.longer
