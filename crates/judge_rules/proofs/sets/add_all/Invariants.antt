use Rattle.judge_rules.specs.Sets.{Adds}
use Rattle.judge_rules.proofs.sets.add_all.Given as goal

abbrev pub invariant-loop-state : goal.invariant-loop-state
invariant-loop-state l = Adds l.initial.states.items l.states.items l.yielded
