use Rattle.std.proofs.Common.{◌≡◌, ◌++◌}
use Rattle.judge_rules.proofs.branch.both.Given as goal

abbrev pub invariant-loop-state : goal.invariant-loop-state
invariant-loop-state l = l.states.items ≡ l.initial.states.items ++ l.yielded
