use Rattle.proof_runs.proofs.worlds.Kept.{keeps_own}
use Rattle.proof_runs.proofs.worlds.RunRestarts.{restart_faults_move}
use Rattle.proof_runs.proofs.worlds.runs.restart_faults_move_runs.Goals as goal

pub returns : goal.returns
returns c = λ tree es w is_tree run q listed old new keep at stands broken. restart_faults_move tree w q old
    new at stands listed (keeps_own tree es w is_tree run q listed) keep broken
