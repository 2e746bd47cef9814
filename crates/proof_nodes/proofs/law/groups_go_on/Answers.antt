use Rattle.proof_nodes.proofs.Groups.{groups_go_on}
use Rattle.proof_nodes.proofs.law.groups_go_on.Goals as goal

pub returns : goal.returns
returns c = groups_go_on
