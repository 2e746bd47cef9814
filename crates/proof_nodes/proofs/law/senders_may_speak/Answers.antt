use Rattle.proof_nodes.proofs.Speakers.{sent_may_speak}
use Rattle.proof_nodes.proofs.law.senders_may_speak.Goals as goal

pub returns : goal.returns
returns c = sent_may_speak
