use Rattle.proof_runs.proofs.worlds.RunRestarts.{trim_refusals_move}
use Rattle.proof_runs.proofs.worlds.runs.trim_refusals_move_nothing.Goals as goal

pub returns : goal.returns
returns c = λ tree w q old new at stands refused. trim_refusals_move tree w q old new at stands refused
