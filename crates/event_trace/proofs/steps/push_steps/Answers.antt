use Rattle.std.proofs.Common.{◌∙◌, ◌≤◌, subst, refl}
use Rattle.std.specs.Prelude.{slice_get}
use Rattle.tree_world.specs.Worlds.{state}
use Rattle.tree_engine.specs.Trees.{AddsStep}
use Rattle.tree_engine.proofs.Traces.{step_added}
use Rattle.event_trace.proofs.Stepping.{all_sent, step_sent}
use Rattle.event_trace.proofs.steps.push_steps.Goals as goal

pub loop-place-preserved : goal.loop-place-preserved
loop-place-preserved c =
    let es = (state c.args.world.now).entries in
    let k = c.loop-place.place in
    let adds = subst (λ o. AddsStep (slice_get es k) c.loop-place.out.items c.push_place.new.out.items
    c.loop-place.next o) c.in-Some.is c.in_ok-more.ensures.text in (
      step_added es k c.loop-place.next c.in-Some.more c.loop-place.out.items c.push_place.new.out.items _
          (slice_get es k) refl adds c.loop-place.invariant.0,
      step_sent es k c.loop-place.next c.in-Some.more c.loop-place.out.items c.push_place.new.out.items
          (slice_get es k) refl adds ∙ c.loop-place.invariant.1,
    )

pub returns-clause-sent : goal.returns-clause-sent
returns-clause-sent c =
    let es = (state c.args.world.now).entries in
    all_sent es c.loop-place.place c.loop-place.next
    (subst (λ n. n ≤ c.loop-place.place) c.made-place-end.ensures c.loop-place-test.false)
    ∙ c.loop-place.invariant.1
