use Rattle.proof_headline.proofs.Clauses
use Rattle.proof_headline.proofs.law.commit_rule.Goals as goal

pub returns : goal.returns
returns c = Clauses.commit_rule
