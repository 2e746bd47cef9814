use Rattle.proof_processes.proofs.RootsHold
use Rattle.proof_processes.proofs.law.roots_begin.Goals as goal

pub returns : goal.returns
returns c = RootsHold.roots_begin
