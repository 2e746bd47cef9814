use Rattle.judge_engine.specs.Plans.{IsPlan}
use Rattle.judge_engine.proofs.plan.script.Given as goal

abbrev pub invariant-loop-i : goal.invariant-loop-i
invariant-loop-i l = IsPlan l.seed l.i l.out.items
