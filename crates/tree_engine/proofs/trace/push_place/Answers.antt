use Rattle.std.specs.Prelude.{slice_get}
use Rattle.tree_world.specs.Worlds.{state}
use Rattle.tree_engine.proofs.Traces.{adds_shown}
use Rattle.tree_engine.proofs.trace.push_place.Goals as goal

pub returns-in_ok-push_step-in-Some-clause-text : goal.returns-in_ok-push_step-in-Some-clause-text
returns-in_ok-push_step-in-Some-clause-text c =
    adds_shown (slice_get (state c.args.world.now).entries c.args.place) c.shown.result
    c.in-Some.step c.args.out.now.items
    c.push_step.new.out.items c.args.sent c.in_ok-push_step-in-Some.field-0 c.in-Some.is c.shown.ensures
    c.in_ok-push_step-in-Some.ensures.sent c.in_ok-push_step-in-Some.ensures.text
