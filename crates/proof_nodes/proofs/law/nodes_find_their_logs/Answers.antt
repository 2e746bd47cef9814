use Rattle.proof_nodes.proofs.Finding.{finds_kept}
use Rattle.proof_nodes.proofs.law.nodes_find_their_logs.Goals as goal

pub returns : goal.returns
returns c = finds_kept
