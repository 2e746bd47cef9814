use Rattle.std.proofs.Common.{◌∙◌, [], None, Some, inl, refl, subst, sym}
use Rattle.tree_world.specs.Worlds.{state}
use Rattle.crash_engine.specs.Origins.{PlaysFrom}
use Rattle.crash_engine.proofs.Trying.{begun, comes_to}
use Rattle.crash_engine.proofs.Failing.{handed_on, run_breaks}
use Rattle.crash_engine.proofs.trial.made_of.Goals as goal

pub returns-in-None-clause-made : goal.returns-in-None-clause-made
returns-in-None-clause-made c =
    let start = state c.in_ok-run.run'.world in
    let run = c.make_all-made.new.self in
    let begins = c.in_ok-run.ensures.begins in
    let come = c.in_ok-made.ensures.goes_on start [] (begun c.args.origin.now c.in_ok-run.run' begins) in
    let plays = comes_to c.args.origin.now c.in_ok-run.run' run c.args.events.now begins come in (
      None,
      state run.world,
      subst (λ r. PlaysFrom c.args.origin.now c.args.events.now r (state run.world))
          (sym c.refusal-refusal.ensures ∙ c.in-None.is) plays,
      refl,
    )

pub returns-in-Some-clause-made : goal.returns-in-Some-clause-made
returns-in-Some-clause-made c =
    let start = state c.in_ok-run.run'.world in
    let run = c.make_all-made.new.self in
    let begins = c.in_ok-run.ensures.begins in
    let come = c.in_ok-made.ensures.goes_on start [] (begun c.args.origin.now c.in_ok-run.run' begins) in
    let plays = comes_to c.args.origin.now c.in_ok-run.run' run c.args.events.now begins come in (
      Some (c.in-Some.made, c.in-Some.field-0-1),
      state run.world,
      subst (λ r. PlaysFrom c.args.origin.now c.args.events.now r (state run.world))
          (sym c.refusal-refusal.ensures ∙ c.in-Some.is) plays,
      refl,
    )

pub returns-in_err-made-clause-err : goal.returns-in_err-made-clause-err
returns-in_err-made-clause-err c =
    let start = state c.in_ok-run.run'.world in
    let begins = c.in_ok-run.ensures.begins in
    let why = c.in_err-made.field-0.0 in
    handed_on _ c.from_residual-in_err-made.result why c.from_residual-in_err-made.ensures.1
    c.in_err-made.ensures.err
    (λ cannot. run_breaks c.args.origin.now c.args.events.now c.in_ok-run.run' why begins
    (cannot start [] (begun c.args.origin.now c.in_ok-run.run' begins)))

pub returns-in_err-run-clause-err : goal.returns-in_err-run-clause-err
returns-in_err-run-clause-err c =
    handed_on _ c.from_residual.result c.in_err-run.field-0.0 c.from_residual.ensures.1
    c.in_err-run.ensures.err
    (λ not. inl not)
