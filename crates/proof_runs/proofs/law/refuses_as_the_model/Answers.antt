use Rattle.proof_runs.proofs.Faults.{refuses_so}
use Rattle.proof_runs.proofs.law.refuses_as_the_model.Goals as goal

pub returns : goal.returns
returns c = refuses_so
