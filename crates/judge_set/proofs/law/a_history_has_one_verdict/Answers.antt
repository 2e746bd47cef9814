use Rattle.judge_set.proofs.Verdicts.{one_verdict}
use Rattle.judge_set.proofs.law.a_history_has_one_verdict.Goals as goal

pub returns : goal.returns
returns c = one_verdict
