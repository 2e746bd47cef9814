use Rattle.proof_pairs.proofs.readings.StepLaws
use Rattle.proof_pairs.proofs.readings.law.manager_votes_yes.Goals as goal

pub returns : goal.returns
returns c = record { moves = StepLaws.manager_votes_yes }
