use Rattle.proof_headline.proofs.Pairs
use Rattle.proof_headline.proofs.law.below.Goals as goal

pub returns : goal.returns
returns c = Pairs.below
