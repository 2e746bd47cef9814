use Rattle.proof_runs.proofs.worlds.Moves.{refusals_move}
use Rattle.proof_runs.proofs.worlds.runs.refusals_move_nothing.Goals as goal

pub returns : goal.returns
returns c =
    λ tree es w run q old new a i e at stands refused. refusals_move tree es w run q
    old new a i at stands e refused
