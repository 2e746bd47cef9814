use Rattle.proof_pairs.proofs.readings.TrimStep
use Rattle.proof_pairs.proofs.readings.law.root_trims.Goals as goal

pub returns : goal.returns
returns c = record { moves = TrimStep.root_trims }
