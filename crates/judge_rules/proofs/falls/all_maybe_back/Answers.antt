use Rattle.std.proofs.Common.{arith}
use Rattle.std.specs.Prelude.{fold}
use Rattle.judge_rules.specs.Falls.{maybe_back}
use Rattle.judge_rules.specs.Sets.{AreTooManyStates}
use Rattle.judge_rules.proofs.Passing.{passed_on}
use Rattle.judge_rules.proofs.Growing.{back_many, back_set}
use Rattle.judge_rules.proofs.falls.all_maybe_back.Goals as goal

pub loop-branch-preserved : goal.loop-branch-preserved
loop-branch-preserved c = back_set c.args.works.now c.args.states.items c.loop-branch.back.items
    c.in_ok-more.more.items
    c.in_ok-back.back.items c.args.lost.now c.loop-branch.branch-index _ (omega arith) c.loop-branch.invariant
    c.in_ok-more.ensures c.in_ok-back.ensures.states

pub returns-in_err-back-clause-too_many : goal.returns-in_err-back-clause-too_many
returns-in_err-back-clause-too_many c = passed_on
    (AreTooManyStates (fold (maybe_back c.args.works.now) c.args.states.items c.args.lost.now))
    c.from_residual-in_err-back.result c.in_err-back.field-0.0 c.from_residual-in_err-back.ensures.1
    (λ many. back_many c.args.works.now c.args.states.items c.loop-branch.back.items
    c.in_ok-more.more.items c.args.lost.now
    c.loop-branch.branch-index _ (omega arith) c.loop-branch.invariant c.in_ok-more.ensures
    (c.in_err-back.ensures.too_many many))
