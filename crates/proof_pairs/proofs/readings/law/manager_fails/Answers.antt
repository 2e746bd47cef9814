use Rattle.proof_pairs.proofs.readings.FaultStep
use Rattle.proof_pairs.proofs.readings.law.manager_fails.Goals as goal

pub returns : goal.returns
returns c = record { moves = FaultStep.manager_fails }
