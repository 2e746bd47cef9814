use Rattle.judge_set.proofs.Promises.{narrow}
use Rattle.judge_set.proofs.law.promises_only_narrow.Goals as goal

pub returns : goal.returns
returns c = narrow
