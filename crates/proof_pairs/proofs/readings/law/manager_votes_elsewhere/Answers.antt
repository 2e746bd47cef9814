use Rattle.proof_pairs.proofs.readings.OtherSteps
use Rattle.proof_pairs.proofs.readings.law.manager_votes_elsewhere.Goals as goal

pub returns : goal.returns
returns c = record { moves = OtherSteps.manager_votes_elsewhere }
