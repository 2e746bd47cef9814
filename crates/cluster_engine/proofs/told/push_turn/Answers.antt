use Rattle.cluster_engine.proofs.Tellings.{told_next}
use Rattle.cluster_engine.proofs.told.push_turn.Goals as goal

pub loop-place-preserved : goal.loop-place-preserved
loop-place-preserved c =
    told_next c.args.all.now.items c.args.turn.now c.loop-place.place c.index-turn-place.result
    c.loop-place.all.items
    c.push_one.new.all.items c.loop-place-test.true c.in_ok-push_one.ensures c.loop-place.invariant
