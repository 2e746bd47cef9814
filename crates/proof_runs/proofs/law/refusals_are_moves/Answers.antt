use Rattle.proof_runs.proofs.Steps.{refusals_so}
use Rattle.proof_runs.proofs.law.refusals_are_moves.Goals as goal

pub returns : goal.returns
returns c = λ n old new a i e stands fits refused. refusals_so n old new a i stands fits e refused
