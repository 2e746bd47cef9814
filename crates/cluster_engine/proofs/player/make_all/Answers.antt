use Rattle.cluster_engine.proofs.Making.{made_more, stops_here}
use Rattle.cluster_engine.proofs.player.make_all.Goals as goal

pub loop-made-preserved : goal.loop-made-preserved
loop-made-preserved g c =
    made_more g.N.Seats.tree c.args.events.now c.loop-made.made c.index-events-made.result c.args.pass.now
    c.loop-made.pass c.make.new.pass c.loop-made-test.true c.index-events-made.is c.loop-made.invariant
    c.in_default.ensures.ok

pub returns-in-Err-clause-stopped : goal.returns-in-Err-clause-stopped
returns-in-Err-clause-stopped g c =
    stops_here g.N.Seats.tree c.args.events.now c.loop-made.made c.index-events-made.result c.args.pass.now
    c.loop-made.pass c.in-Err.why c.loop-made-test.true c.index-events-made.is c.loop-made.invariant
    c.in-Err.ensures.err
