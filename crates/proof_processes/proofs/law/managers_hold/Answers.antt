use Rattle.proof_processes.proofs.ManagersHold
use Rattle.proof_processes.proofs.law.managers_hold.Goals as goal

pub returns : goal.returns
returns c = ManagersHold.managers_hold
