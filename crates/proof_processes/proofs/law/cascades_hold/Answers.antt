use Rattle.proof_processes.proofs.CascadesHold
use Rattle.proof_processes.proofs.law.cascades_hold.Goals as goal

pub returns : goal.returns
returns c = CascadesHold.cascade_holds
