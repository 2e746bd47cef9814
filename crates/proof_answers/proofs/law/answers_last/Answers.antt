use Rattle.proof_answers.proofs.Lasting.{answers_last}
use Rattle.proof_answers.proofs.law.answers_last.Goals as goal

pub returns : goal.returns
returns c = answers_last
