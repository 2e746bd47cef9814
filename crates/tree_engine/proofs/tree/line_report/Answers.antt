use Rattle.std.proofs.Common.{◌∙◌, ap, subst, sym}
use Rattle.tree_world.specs.Worlds.{state}
use Rattle.tree_engine.specs.Reopened.{PlaysBy}
use Rattle.tree_engine.specs.Trees.{IsNumberedRefusal, output_of}
use Rattle.tree_engine.proofs.TreeReports.{reported}
use Rattle.tree_engine.proofs.tree.line_report.Goals as goal

pub told-told-requires : goal.told-told-requires
told-told-requires c =
    let s = rw c.in-Ok.is at c.in_ok-run.ensures.run in
    subst IsNumberedRefusal (sym c.refusal.ensures) s.numbered

pub returns-in-Ok-clause-report : goal.returns-in-Ok-clause-report
returns-in-Ok-clause-report c =
    let s = rw c.in-Ok.is at c.in_ok-run.ensures.run in
    let plays = subst (λ w. PlaysBy s.tree s.logs s.events c.refusal.result (state w)) (sym c.world.ensures)
    (subst (λ r. PlaysBy s.tree s.logs s.events r (state c.in-Ok.run'.world)) (sym c.refusal.ensures) s.plays)
    in
    reported (λ r. r.0.items) (output_of c.args.output) _ _ _ _ _ _ _ _ s.script plays
    (ap (λ w. w.reopened) c.world.ensures ∙ s.over) c.told-told.ensures.text c.told-told.ensures.status
