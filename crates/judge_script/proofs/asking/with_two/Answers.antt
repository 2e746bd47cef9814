use Rattle.judge_script.proofs.Nothing.{if_none, no_told_open}
use Rattle.judge_script.proofs.asking.with_two.Goals as goal

pub returns-in_err-parse-in-Open-clause-none : goal.returns-in_err-parse-in-Open-clause-none
returns-in_err-parse-in-Open-clause-none c = if_none _ _
    (no_told_open c.args.word c.args.first.now c.args.second.now c.in-Open.is
    c.in_err-parse-in-Open.ensures.none)
