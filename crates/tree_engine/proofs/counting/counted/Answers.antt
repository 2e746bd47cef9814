use Rattle.std.proofs.Common.{◌≡◌, ◌∙◌, ◌⊎◌, inr, ap, sym, take}
use Rattle.tree_engine.specs.Counts.{rows_of}
use Rattle.tree_world.specs.Worlds.{state}
use Rattle.report_io.specs.declared.streams.Failure.TheVariants.{Exhausted, Memory}
use Rattle.tree_engine.specs.Failures.{IsUncounted}
use Rattle.tree_world.proofs.Handling.{passed_on}
use Rattle.tree_engine.proofs.Fits.{not_all_counted}
use Rattle.tree_engine.proofs.Traces.{taken_at}
use Rattle.tree_engine.proofs.counting.counted.Goals as goal

pub loop-place-preserved : goal.loop-place-preserved
loop-place-preserved c =
    let w = state c.args.world.now in
    let k = c.loop-place.place in
    let at = taken_at w.entries k c.in-Some.entry (sym c.in_ok-entry.ensures ∙ c.in-Some.is) in
    c.in_ok-added.ensures.ok w.tree (take k w.entries) c.loop-place.invariant ∙ ap (rows_of w.tree) (sym at)

pub returns-in_err-added-clause-err : goal.returns-in_err-added-clause-err
returns-in_err-added-clause-err c =
    let w = state c.args.world.now in
    let k = c.loop-place.place in
    let said = c.in_err-added.ensures.err in
    passed_on c.from_residual-in_err-added.result c.in_err-added.field-0.0
    (λ why. (why ≡ Memory) ⊎ ((why ≡ Exhausted) × IsUncounted w))
    c.from_residual-in_err-added.ensures.1
    (inr (
      said.0,
      not_all_counted w.tree w.entries k c.in-Some.entry (sym c.in_ok-entry.ensures ∙ c.in-Some.is)
          (said.1 w.tree (take k w.entries) c.loop-place.invariant),
    ))
