use Rattle.proof_steps.proofs.cascades.ChildSteps
use Rattle.proof_steps.proofs.cascades.law.cascaded_child_steps.Goals as goal

pub returns : goal.returns
returns c = ChildSteps.cascaded_child_steps
