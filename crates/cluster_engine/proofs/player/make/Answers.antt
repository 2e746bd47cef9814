use Rattle.cluster_engine.proofs.Making.{not_made_so, not_settled_so}
use Rattle.cluster_engine.proofs.player.make.Goals as goal

pub returns-in-Settle-clause-err : goal.returns-in-Settle-clause-err
returns-in-Settle-clause-err g c =
    not_settled_so c.settle.result g.N.Seats.tree c.args.event.now c.args.pass.now c.in-Settle.is
    c.settle.ensures.refused

pub returns-in_default-clause-err : goal.returns-in_default-clause-err
returns-in_default-clause-err g c =
    not_made_so c.post.result g.N.Seats.tree c.args.event.now c.args.pass.now c.in_default.not-Settle
    c.post.ensures.err
