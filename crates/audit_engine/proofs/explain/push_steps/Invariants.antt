use Rattle.std.proofs.Common.{◌≡◌, ◌++◌, drop}
use Rattle.audit_engine.specs.Explanations.{steps_text}
use Rattle.audit_engine.proofs.explain.push_steps.Given as goal

abbrev pub invariant-loop-step : goal.invariant-loop-step
invariant-loop-step l =
    l.out.items ++ steps_text l.presumption (drop l.step-index l.steps)
    ≡ l.initial.out.items ++ steps_text l.presumption l.steps
