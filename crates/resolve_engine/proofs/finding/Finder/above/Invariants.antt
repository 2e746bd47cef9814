use Rattle.std.proofs.Common.{◌≡◌, drop, fold}
use Rattle.resolve_engine.specs.Answers.{root_answer, step_answer}
use Rattle.resolve_engine.proofs.finding.Finder.above.Given as goal

abbrev pub invariant-loop-step : goal.invariant-loop-step
invariant-loop-step l =
    fold (λ a s. step_answer l.self.trust l.self.logs.now l.case s) l.answer (drop l.step-index l.steps)
    ≡ fold (λ a s. step_answer l.self.trust l.self.logs.now l.case s)
    (root_answer l.self.trust l.case) l.steps
