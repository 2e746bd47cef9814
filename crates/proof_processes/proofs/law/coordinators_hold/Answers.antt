use Rattle.proof_processes.proofs.CoordinatorsHold
use Rattle.proof_processes.proofs.law.coordinators_hold.Goals as goal

pub returns : goal.returns
returns c = CoordinatorsHold.coordinators_hold
