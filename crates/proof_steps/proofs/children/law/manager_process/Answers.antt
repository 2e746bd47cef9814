use Rattle.proof_steps.proofs.children.ManagerProcess
use Rattle.proof_steps.proofs.children.law.manager_process.Goals as goal

pub returns : goal.returns
returns c = ManagerProcess.manager_process
