use Rattle.proof_nodes.proofs.Audits.{nodes_are_audited_truly}
use Rattle.proof_nodes.proofs.law.nodes_are_audited_truly.Goals as goal

pub returns : goal.returns
returns c = nodes_are_audited_truly
