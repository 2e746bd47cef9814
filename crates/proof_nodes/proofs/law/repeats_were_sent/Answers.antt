use Rattle.proof_nodes.proofs.Repeats.{repeats_were_sent}
use Rattle.proof_nodes.proofs.law.repeats_were_sent.Goals as goal

pub returns : goal.returns
returns c = repeats_were_sent
