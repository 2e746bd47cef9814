use Rattle.proof_runs.proofs.Trimming.{trim_refused}
use Rattle.proof_runs.proofs.law.trim_refusals_are_moves.Goals as goal

pub returns : goal.returns
returns c = λ n old new stands refused. trim_refused n old new stands refused
