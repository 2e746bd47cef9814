use Rattle.proof_steps.proofs.parents.Steps
use Rattle.proof_steps.proofs.parents.law.coordinator_rows.Goals as goal

pub returns : goal.returns
returns c = Steps.coordinator_rows
