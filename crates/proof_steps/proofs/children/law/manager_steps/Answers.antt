use Rattle.proof_steps.proofs.children.ManagerSteps
use Rattle.proof_steps.proofs.children.law.manager_steps.Goals as goal

pub returns : goal.returns
returns c = ManagerSteps.manager_steps
