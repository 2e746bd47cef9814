use Rattle.proof_processes.proofs.RootsHold
use Rattle.proof_processes.proofs.law.nodes_hold.Goals as goal

pub returns : goal.returns
returns c = RootsHold.nodes_hold
