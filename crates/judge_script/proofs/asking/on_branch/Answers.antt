use Rattle.judge_script.proofs.Nothing.{if_none, no_branch}
use Rattle.judge_script.proofs.asking.on_branch.Goals as goal

pub returns-in_err-parse-clause-none : goal.returns-in_err-parse-clause-none
returns-in_err-parse-clause-none c = if_none _ _
    (no_branch c.args.verb c.args.first.now c.args.second.now c.args.third.now c.in_err-parse.ensures.none)
