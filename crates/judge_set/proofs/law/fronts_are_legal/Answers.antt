use Rattle.judge_set.proofs.Members.{legal_front}
use Rattle.judge_set.proofs.law.fronts_are_legal.Goals as goal

pub returns : goal.returns
returns c = legal_front
