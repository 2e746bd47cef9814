use Rattle.proof_runs.proofs.ManagerSteps.{managers_make}
use Rattle.proof_runs.proofs.law.managers_make_as_the_model.Goals as goal

pub returns : goal.returns
returns c = managers_make
