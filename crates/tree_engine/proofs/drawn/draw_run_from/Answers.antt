use Rattle.std.proofs.Common.{◌≤◌, List, [], length, subst, sym}
use Rattle.picture_layout.specs.declared.rows.EventSteps.{EventSteps}
use Rattle.std.proofs.lemmas.Result.{IfErr-weaker}
use Rattle.tree_world.specs.Worlds.{state}
use Rattle.tree_engine.proofs.TreeReports.{draws_run, run_not_drawn}
use Rattle.tree_engine.proofs.drawn.draw_run_from.Goals as goal

pub returns-in-Ok-clause-draws : goal.returns-in-Ok-clause-draws
returns-in-Ok-clause-draws c =
    draws_run (λ r. r.0.items) c.args.events.now c.args.run c.make_turns.new.run c.drawn_run-drawn.result
    (c.in-Ok.ensures.goes_on (state c.args.run.world) [] c.requires) c.drawn_run-drawn.ensures.status
    c.drawn_run-drawn.ensures.text

pub returns-in-Ok-clause-err : goal.returns-in-Ok-clause-err
returns-in-Ok-clause-err c =
    let turns = length c.deref.result.now in
    let few : turns ≤ length c.args.events.now =
    subst (λ (xs : List EventSteps). length xs ≤ length c.args.events.now) (sym c.deref.ensures.value)
    c.in-Ok.ensures.few in
    IfErr-weaker c.drawn_run-drawn.result _ _
    (λ why. run_not_drawn c.args.events.now c.args.run c.make_turns.new.run turns why
    (c.in-Ok.ensures.goes_on (state c.args.run.world) [] c.requires) few)
    c.drawn_run-drawn.ensures.err
