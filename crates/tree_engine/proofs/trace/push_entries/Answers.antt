use Rattle.std.proofs.Common.{◌≡◌, ◌⊎◌, ◌≤◌, ◌^◌, subst, refl}
use Rattle.std.specs.Prelude.{slice_get}
use Rattle.tree_world.specs.Worlds.{state}
use Rattle.report_io.specs.declared.streams.Failure.TheVariants.{Exhausted, Memory}
use Rattle.tree_engine.specs.Failures.{message_count}
use Rattle.tree_engine.specs.Trees.{AddsStep}
use Rattle.tree_world.proofs.Handling.{passed_on}
use Rattle.tree_engine.proofs.Sending.{entries_past, sent_behind}
use Rattle.tree_engine.proofs.Traces.{none_added, step_added}
use Rattle.tree_engine.proofs.trace.push_entries.Goals as goal

pub loop-place-preserved : goal.loop-place-preserved
loop-place-preserved c =
    let es = (state c.args.world.now).entries in
    let k = c.loop-place.place in
    let adds = subst (λ o. AddsStep (slice_get es k) c.loop-place.out.items c.push_place.new.out.items
    c.loop-place.sent o) c.in-Some.is c.in_ok-next.ensures.text in (
      step_added es k c.loop-place.sent c.in-Some.next c.loop-place.out.items c.push_place.new.out.items _
          (slice_get es k) refl adds c.loop-place.invariant.0,
      sent_behind es k c.loop-place.sent c.in-Some.next c.loop-place.out.items c.push_place.new.out.items
          (slice_get es k) refl adds c.loop-place.invariant.1,
    )

pub returns-in_default-clause-text : goal.returns-in_default-clause-text
returns-in_default-clause-text c =
    let es = (state c.args.world.now).entries in
    let k = c.loop-place.place in
    none_added es k c.loop-place.sent c.loop-place.out.items c.push_place.new.out.items _
    (slice_get es k) refl
    (subst (λ o. AddsStep (slice_get es k) c.loop-place.out.items c.push_place.new.out.items
    c.loop-place.sent o)
    c.in_default.is c.in_ok-next.ensures.text) c.loop-place.invariant.0

pub returns-in_err-next-clause-err : goal.returns-in_err-next-clause-err
returns-in_err-next-clause-err c =
    let es = (state c.args.world.now).entries in
    passed_on c.from_residual.result c.in_err-next.field-0.0
    (λ why. (why ≡ Memory) ⊎ ((why ≡ Exhausted) × (2 ^ 64 ≤ message_count es)))
    c.from_residual.ensures.1
    (entries_past es c.loop-place.place c.loop-place.sent c.in_err-next.field-0.0 c.in_err-next.ensures.err
    c.loop-place.invariant.1)
