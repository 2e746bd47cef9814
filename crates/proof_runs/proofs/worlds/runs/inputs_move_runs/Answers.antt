use Rattle.proof_runs.proofs.worlds.Moves.{inputs_move}
use Rattle.proof_runs.proofs.worlds.runs.inputs_move_runs.Goals as goal

pub returns : goal.returns
returns c = λ tree es w run q listed old new a i reaction at stands made. inputs_move
    tree es w run q old new a i at
    stands listed reaction made
