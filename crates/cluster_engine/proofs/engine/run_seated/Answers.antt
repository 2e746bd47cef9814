use Rattle.std.proofs.Common.{◌∙◌, refl, subst, sym}
use Rattle.cluster_tree.specs.Opening.{SeatsTree}
use Rattle.cluster_engine.specs.Made.{FirstMade, FirstStops}
use Rattle.std.proofs.lemmas.Result.{IfErr-weaker}
use Rattle.cluster_engine.proofs.Making.{some_passes}
use Rattle.cluster_engine.proofs.Reporting.{closed_written, not_closed, not_posted, refused_written}
use Rattle.cluster_engine.proofs.engine.run_seated.Goals as goal

pub new-requires-clause-seats : goal.new-requires-clause-seats
new-requires-clause-seats g c =
    subst (λ t. SeatsTree g.N.Seats.table g.N.Seats.tree t c.args.opened.ties.shared.table_id
    c.args.opened.ties.shared.key.items)
    (sym (c.in_ok-copy.ensures ∙ c.entries.ensures)) c.requires.seats

pub play-requires-after_bounds : goal.play-requires-after_bounds
play-requires-after_bounds g c κs within =
    some_passes c.args.workers c.as_mut_slice-passes.result.now c.requires.workers.0
    (c.as_mut_slice-passes.ensures.value ∙ c.in-Ok.ensures.passes)

pub returns-in-None-clause-text : goal.returns-in-None-clause-text
returns-in-None-clause-text g c =
    closed_written (λ r. r.0.items) c.args.output c.args.tree c.args.events.now c.args.workers
    g.N.Seats.callers
    c.as_mut_slice-passes.result.now c.play.new.passes c.closed_text.result c.requires.workers.0
    c.requires.callers
    (c.as_mut_slice-passes.ensures.value ∙ c.in-Ok.ensures.passes)
    (subst (λ t. FirstMade t c.args.events.now c.as_mut_slice-passes.result.now c.play.new.passes)
    (sym c.requires.seats.tree_is) (c.in-None.ensures.made refl))
    c.closed_text.ensures.text c.closed_text.ensures.status

pub returns-in-None-clause-err : goal.returns-in-None-clause-err
returns-in-None-clause-err g c =
    IfErr-weaker c.closed_text.result _ _ (not_closed c.args.tree c.args.events.now) c.closed_text.ensures.err

pub returns-in-Some-clause-text : goal.returns-in-Some-clause-text
returns-in-Some-clause-text g c =
    refused_written (λ r. r.0.items) c.args.output c.args.tree c.args.events.now c.args.workers
    c.as_mut_slice-passes.result.now c.in-Some.made c.in-Some.why c.refused_line.result c.requires.workers.0
    (c.as_mut_slice-passes.ensures.value ∙ c.in-Ok.ensures.passes)
    (subst (λ t. FirstStops t c.args.events.now c.as_mut_slice-passes.result.now c.in-Some.made c.in-Some.why)
    (sym c.requires.seats.tree_is) c.in-Some.ensures.stopped)
    c.refused_line.ensures.line c.refused_line.ensures.status

pub returns-in-Some-clause-err : goal.returns-in-Some-clause-err
returns-in-Some-clause-err g c =
    IfErr-weaker c.refused_line.result _ _
    (λ why. not_posted c.args.tree c.args.events.now c.args.workers
    c.as_mut_slice-passes.result.now c.in-Some.made
    c.in-Some.why why c.requires.workers.0 (c.as_mut_slice-passes.ensures.value ∙ c.in-Ok.ensures.passes)
    (subst (λ t. FirstStops t c.args.events.now c.as_mut_slice-passes.result.now c.in-Some.made c.in-Some.why)
    (sym c.requires.seats.tree_is) c.in-Some.ensures.stopped))
    c.refused_line.ensures.err
