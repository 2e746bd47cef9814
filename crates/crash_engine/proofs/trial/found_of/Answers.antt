use Rattle.std.proofs.Common.{◌≡◌, ◌∙◌, None, subst, sym}
use Rattle.tree_world.specs.Worlds.{state}
use Rattle.crash_engine.specs.Audits.{Audits}
use Rattle.crash_engine.specs.Trials.{EndsWith, known_by}
use Rattle.crash_engine.proofs.Trying.{found_leaves}
use Rattle.crash_engine.proofs.trial.found_of.Goals as goal

pub returns-in_ok-found_by-in-Ok-clause-ends : goal.returns-in_ok-found_by-in-Ok-clause-ends
returns-in_ok-found_by-in-Ok-clause-ends c =
    let run = c.args.run.now in
    let report = c.in-Ok.report in
    let none : run.refusal ≡ None = sym c.refusal.ensures ∙ c.in-None.is in
    let audits = subst (λ w. Audits (state w) report) c.world.ensures
    (rw c.in-Ok.is at c.in_ok-report-in-None.ensures.audits) in
    λ o events plays.
    subst (λ r. EndsWith o (known_by c.args.known.now) (state run.world) r c.in_ok-found_by-in-Ok.field-0)
    (sym none)
    (found_leaves o (known_by c.args.known.now) (state run.world) report c.in_ok-found_by-in-Ok.field-0 audits
    c.in_ok-found_by-in-Ok.ensures)
