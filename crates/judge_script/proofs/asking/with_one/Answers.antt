use Rattle.judge_script.proofs.Nothing.{if_none, no_close, no_open}
use Rattle.judge_script.proofs.asking.with_one.Goals as goal

pub returns-in_err-parse-in-Open-clause-none : goal.returns-in_err-parse-in-Open-clause-none
returns-in_err-parse-in-Open-clause-none c = if_none _ _
    (no_open c.args.word c.args.first.now c.in-Open.is c.in_err-parse-in-Open.ensures.none)

pub returns-in_err-parse-in-Close-clause-none : goal.returns-in_err-parse-in-Close-clause-none
returns-in_err-parse-in-Close-clause-none c = if_none _ _
    (no_close c.args.word c.args.first.now c.in-Close.is c.in_err-parse-in-Close.ensures.none)
