use Rattle.proof_runs.proofs.Faults.{same_stands}
use Rattle.proof_runs.proofs.law.same_stands_for_the_same.Goals as goal

pub returns : goal.returns
returns c = same_stands
