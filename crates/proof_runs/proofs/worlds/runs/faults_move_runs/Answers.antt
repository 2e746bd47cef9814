use Rattle.proof_runs.proofs.worlds.Moves.{faults_move}
use Rattle.proof_runs.proofs.worlds.runs.faults_move_runs.Goals as goal

pub returns : goal.returns
returns c = λ tree es w run q listed old new a i at stands same broken. faults_move
    tree es w run q old new a i at
    stands listed same broken
