use Rattle.std.proofs.Common.{◌≡◌, ◌∙◌, ◌⊎◌}
use Rattle.report_io.specs.declared.streams.Failure.TheVariants.{Memory, Exhausted}
use Rattle.tree_world.specs.Worlds.{state}
use Rattle.tree_world.proofs.Handling.{passed_on}
use Rattle.crash_engine.specs.Points.{AreTooLong}
use Rattle.crash_engine.proofs.PointLaws.{too_long}
use Rattle.crash_engine.proofs.points.points_of.Goals as goal

pub returns-in_err-push_points-clause-err : goal.returns-in_err-push_points-clause-err
returns-in_err-push_points-clause-err c =
    let w = state c.args.world.now in
    let items = c.entries-entry-items.ensures ∙ c.tree.ensures in
    passed_on c.from_residual-in_err-push_points.result c.in_err-push_points.field-0.0
    (λ why. (why ≡ Memory) ⊎ ((why ≡ Exhausted) × AreTooLong w)) c.from_residual-in_err-push_points.ensures.1
    (too_long w c.loop-entry.entry-index c.entry-item.result c.entries-entry-items.result.now
    c.deref.result.now c.in_err-push_points.field-0.0 items c.loop-entry-test.true c.entry-item.is
    (c.deref.ensures.value ∙ c.in_ok-sizes.ensures) c.in_err-push_points.ensures.err)
