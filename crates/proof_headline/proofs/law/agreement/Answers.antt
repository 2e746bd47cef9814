use Rattle.proof_headline.proofs.Clauses
use Rattle.proof_headline.proofs.law.agreement.Goals as goal

pub returns : goal.returns
returns c = λ tree w is_tree h. Clauses.agreement tree is_tree w h
