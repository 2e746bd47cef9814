use Rattle.cluster_tree.proofs.Passing.{turn_longer}
use Rattle.cluster_tree.proofs.Refused.{not_delivered}
use Rattle.cluster_tree.proofs.cluster.Cluster.deliver.Goals as goal

pub returns-then-turn : goal.returns-then-turn
returns-then-turn g c =
    turn_longer g.N.Seats.tree c.args.claim.to c.args.claim.number _ _ _ c.in-Ok.ensures.ok

pub returns-else-turn : goal.returns-else-turn
returns-else-turn g c =
    turn_longer g.N.Seats.tree c.args.claim.to c.args.claim.number _ _ _ c.in-Ok.ensures.ok

pub stop-requires : goal.stop-requires
stop-requires g c =
    not_delivered g.N.Seats.tree c.args.claim.to c.args.claim.number c.args.pass.now c.in-Err.why
    c.in-Err.ensures.refused
