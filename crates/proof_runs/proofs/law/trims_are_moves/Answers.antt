use Rattle.proof_runs.proofs.Trimming.{trims_so}
use Rattle.proof_runs.proofs.law.trims_are_moves.Goals as goal

pub returns : goal.returns
returns c = λ n old new remain stands runs own opened fits sound made. trims_so n old new stands runs own
    opened sound fits remain made
