use Rattle.std.proofs.Common.{take}
use Rattle.std.specs.Prelude.{fold}
use Rattle.judge_rules.specs.Falls.{maybe_gone}
use Rattle.judge_rules.specs.Sets.{IsSetOf}
use Rattle.judge_rules.proofs.falls.all_maybe_gone.Given as goal

abbrev pub invariant-loop-branch : goal.invariant-loop-branch
invariant-loop-branch l = IsSetOf (fold maybe_gone l.fn.states.items (take l.branch-index l.branches))
    l.left.items
