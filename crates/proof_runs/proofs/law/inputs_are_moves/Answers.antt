use Rattle.proof_runs.proofs.Steps.{steps_so}
use Rattle.proof_runs.proofs.law.inputs_are_moves.Goals as goal

pub returns : goal.returns
returns c = λ n old new a i reaction stands fits made. steps_so n old new a i stands fits reaction made
