use Rattle.std.proofs.Common.{◌∷◌, refl}
use Rattle.cluster_engine.proofs.Making.{first_made, some_stops}
use Rattle.cluster_engine.proofs.player.play.Goals as goal

pub returns-clause-made : goal.returns-clause-made
returns-clause-made g c =
    λ none. first_made g.N.Seats.tree c.args.events.now c.in-Some.first.now c.play_first.new.first
    c.in-Some.others.now
    c.play_first.new.others c.args.passes.now (c.play_first.new.first ∷ c.play_first.new.others)
    c.in-Some.ensures.cases.0 refl (c.play_first.ensures.made none) c.play_first.ensures.others

pub returns-clause-stopped : goal.returns-clause-stopped
returns-clause-stopped g c =
    some_stops g.N.Seats.tree c.args.events.now c.in-Some.first.now c.in-Some.others.now c.args.passes.now
    c.play_first.result c.in-Some.ensures.cases.0 c.play_first.ensures.stopped
