use Rattle.proof_runs.proofs.worlds.Kept.{keeps_own}
use Rattle.proof_runs.proofs.worlds.RunRestarts.{restarts_move}
use Rattle.proof_runs.proofs.worlds.runs.restarts_move_runs.Goals as goal

pub returns : goal.returns
returns c = λ tree es w is_tree run q listed old new keep reaction at stands made. restarts_move tree w q old
    new at stands listed (keeps_own tree es w is_tree run q listed) keep reaction made
