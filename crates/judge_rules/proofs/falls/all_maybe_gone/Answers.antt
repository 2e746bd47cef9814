use Rattle.std.proofs.Common.{arith}
use Rattle.std.specs.Prelude.{fold}
use Rattle.judge_rules.specs.Falls.{maybe_gone}
use Rattle.judge_rules.specs.Sets.{AreTooManyStates}
use Rattle.judge_rules.proofs.Passing.{passed_on}
use Rattle.judge_rules.proofs.Growing.{gone_many, gone_set}
use Rattle.judge_rules.proofs.falls.all_maybe_gone.Goals as goal

pub loop-branch-preserved : goal.loop-branch-preserved
loop-branch-preserved c = gone_set c.args.states.items c.loop-branch.left.items c.in_ok-more.more.items
    c.in_ok-left.left.items c.args.branches.now c.loop-branch.branch-index _ (omega arith)
    c.loop-branch.invariant
    c.in_ok-more.ensures c.in_ok-left.ensures.states

pub returns-in_err-left-clause-too_many : goal.returns-in_err-left-clause-too_many
returns-in_err-left-clause-too_many c = passed_on
    (AreTooManyStates (fold maybe_gone c.args.states.items c.args.branches.now))
    c.from_residual-in_err-left.result c.in_err-left.field-0.0 c.from_residual-in_err-left.ensures.1
    (λ many. gone_many c.args.states.items c.loop-branch.left.items c.in_ok-more.more.items
    c.args.branches.now
    c.loop-branch.branch-index _ (omega arith) c.loop-branch.invariant c.in_ok-more.ensures
    (c.in_err-left.ensures.too_many many))
