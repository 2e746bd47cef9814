use Rattle.proof_processes.proofs.CascadesHold
use Rattle.proof_processes.proofs.law.cascades_own_their_cases.Goals as goal

pub returns : goal.returns
returns c = CascadesHold.cascade_issues
