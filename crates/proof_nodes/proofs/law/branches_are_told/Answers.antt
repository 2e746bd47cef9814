use Rattle.proof_nodes.proofs.Branches.{branches_are_told}
use Rattle.proof_nodes.proofs.law.branches_are_told.Goals as goal

pub returns : goal.returns
returns c = branches_are_told
