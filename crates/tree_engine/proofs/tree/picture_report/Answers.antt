use Rattle.std.proofs.Common.{subst, sym}
use Rattle.std.specs.Prelude.{IfOk}
use Rattle.std.proofs.lemmas.Result.{IfErr-weaker}
use Rattle.reopen_script.specs.Inputs.{IsReopenScript}
use Rattle.tree_world.specs.Worlds.{state}
use Rattle.tree_engine.specs.Runs.{Draws}
use Rattle.tree_engine.proofs.TreeReports.{drawn_reported, not_drawn}
use Rattle.tree_engine.proofs.tree.picture_report.Goals as goal

pub returns-in-Ok-2-clause-report : goal.returns-in-Ok-2-clause-report
returns-in-Ok-2-clause-report c =
    let (tree, logs, events) = c.in-Ok.script in
    drawn_reported (λ r. r.0.items) c.args.input.now tree logs events.items c.in-Ok-2.run' c.draw_run.result
    c.in-Ok.ensures.ok (rw c.in-Ok-2.is at c.in_ok-run.ensures.begins)
    (subst (λ es. IfOk c.draw_run.result (λ r. Draws (state c.in-Ok-2.run'.world) es r.1 r.0.items))
    c.deref.ensures.value c.draw_run.ensures.draws)

pub returns-in-Ok-2-clause-err : goal.returns-in-Ok-2-clause-err
returns-in-Ok-2-clause-err c =
    let (tree, logs, events) = c.in-Ok.script in
    IfErr-weaker c.draw_run.result _ _
    (λ why. not_drawn c.args.input.now tree logs c.deref.result.now c.in-Ok-2.run' why
    (subst (IsReopenScript c.args.input.now tree logs) (sym c.deref.ensures.value) c.in-Ok.ensures.ok)
    (rw c.in-Ok-2.is at c.in_ok-run.ensures.begins))
    c.draw_run.ensures.err
