use Rattle.proof_pairs.proofs.readings.RestartStep
use Rattle.proof_pairs.proofs.readings.law.manager_restarts.Goals as goal

pub returns : goal.returns
returns c = record { moves = RestartStep.manager_restarts }
