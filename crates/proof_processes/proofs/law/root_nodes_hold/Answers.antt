use Rattle.proof_processes.proofs.RootsHold
use Rattle.proof_processes.proofs.law.root_nodes_hold.Goals as goal

pub returns : goal.returns
returns c = RootsHold.root_nodes_hold
