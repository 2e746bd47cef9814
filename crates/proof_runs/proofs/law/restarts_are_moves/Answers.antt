use Rattle.proof_runs.proofs.Restarting.{restarts_so}
use Rattle.proof_runs.proofs.law.restarts_are_moves.Goals as goal

pub returns : goal.returns
returns c = λ n old new keep reaction stands own made. restarts_so n old new keep stands own reaction made
