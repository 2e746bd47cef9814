use Rattle.proof_headline.proofs.Doubts
use Rattle.proof_headline.proofs.law.true_answers.Goals as goal

pub returns : goal.returns
returns c = Doubts.true_answers
