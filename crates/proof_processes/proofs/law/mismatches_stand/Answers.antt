use Rattle.proof_processes.proofs.Worlds
use Rattle.proof_processes.proofs.law.mismatches_stand.Goals as goal

pub returns : goal.returns
returns c = Worlds.mismatches_stand
