use Rattle.proof_steps.proofs.parents.FaultLaws
use Rattle.proof_steps.proofs.parents.law.coordinator_inputs.Goals as goal

pub returns : goal.returns
returns c = FaultLaws.coordinator_inputs
