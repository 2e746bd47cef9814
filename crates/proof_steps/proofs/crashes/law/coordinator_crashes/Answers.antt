use Rattle.proof_steps.proofs.crashes.CoordinatorCrashes
use Rattle.proof_steps.proofs.crashes.law.coordinator_crashes.Goals as goal

pub returns : goal.returns
returns c = CoordinatorCrashes.coordinator_crashes
