use Rattle.proof_xa.proofs.Histories.{legal_history}
use Rattle.proof_xa.proofs.law.histories_are_legal.Goals as goal

pub returns : goal.returns
returns c = λ m n moves new leads. legal_history m n moves new leads
