use Rattle.proof_pairs.proofs.law.one_step.Goals as goal
use Rattle.proof_pairs.proofs.TwoPairs

pub returns : goal.returns
returns c = record { alike = TwoPairs.one_step }
