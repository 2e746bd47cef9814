use Rattle.judge_script.proofs.Nothing.{if_none, no_recover}
use Rattle.judge_script.proofs.asking.with_three.Goals as goal

pub returns-in_err-parse-in-Recover-clause-none : goal.returns-in_err-parse-in-Recover-clause-none
returns-in_err-parse-in-Recover-clause-none c = if_none _ _
    (no_recover c.args.word c.args.first.now c.args.second.now c.args.third.now c.in-Recover.is
    c.in_err-parse-in-Recover.ensures.none)
