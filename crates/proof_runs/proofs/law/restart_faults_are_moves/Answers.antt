use Rattle.proof_runs.proofs.Restarting.{restart_faults_so}
use Rattle.proof_runs.proofs.law.restart_faults_are_moves.Goals as goal

pub returns : goal.returns
returns c = λ n old new keep stands own broken. restart_faults_so n old new keep stands own broken
