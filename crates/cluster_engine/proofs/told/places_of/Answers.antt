use Rattle.cluster_engine.proofs.Tellings.{place_next}
use Rattle.cluster_engine.proofs.told.places_of.Goals as goal

pub loop-place-preserved : goal.loop-place-preserved
loop-place-preserved c =
    place_next c.args.told.now c.loop-place.place _ c.loop-place.places.items
    c.push.new.self.items c.loop-place-test.true c.in_ok-push.ensures.items c.loop-place.invariant
