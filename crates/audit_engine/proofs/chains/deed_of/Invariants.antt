use Rattle.std.proofs.Common.{◌≡◌, drop}
use Rattle.audit_engine.specs.Chains.{deed_behind}
use Rattle.audit_engine.proofs.chains.deed_of.Given as goal

abbrev pub invariant-loop-step : goal.invariant-loop-step
invariant-loop-step l = deed_behind l.last (drop l.step-index l.steps) ≡ deed_behind l.fn.case l.fn.steps
