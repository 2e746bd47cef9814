use Rattle.proof_runs.proofs.Trimming.{trim_faults_so}
use Rattle.proof_runs.proofs.law.trim_faults_are_moves.Goals as goal

pub returns : goal.returns
returns c = λ n old new stands runs own opened sound broken. trim_faults_so n old new stands
    runs own opened sound broken
