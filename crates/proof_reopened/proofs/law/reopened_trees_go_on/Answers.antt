use Rattle.proof_reopened.proofs.Openings.{reopened_on}
use Rattle.proof_reopened.proofs.law.reopened_trees_go_on.Goals as goal

pub returns : goal.returns
returns c = reopened_on
