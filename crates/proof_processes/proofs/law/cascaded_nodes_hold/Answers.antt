use Rattle.proof_processes.proofs.CoordinatorsHold
use Rattle.proof_processes.proofs.law.cascaded_nodes_hold.Goals as goal

pub returns : goal.returns
returns c = CoordinatorsHold.cascaded_nodes_hold
