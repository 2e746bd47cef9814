use Rattle.proof_nodes.proofs.Tells.{outcomes_are_told}
use Rattle.proof_nodes.proofs.law.outcomes_are_told.Goals as goal

pub returns : goal.returns
returns c = outcomes_are_told
