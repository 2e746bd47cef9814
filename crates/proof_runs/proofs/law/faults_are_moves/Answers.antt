use Rattle.proof_runs.proofs.Steps.{faults_so}
use Rattle.proof_runs.proofs.law.faults_are_moves.Goals as goal

pub returns : goal.returns
returns c = λ n old new a i stands fits same broken. faults_so n old new a i stands fits same broken
