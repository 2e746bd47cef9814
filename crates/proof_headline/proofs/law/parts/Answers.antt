use Rattle.proof_headline.proofs.Parts
use Rattle.proof_headline.proofs.law.parts.Goals as goal

pub returns : goal.returns
returns c = Parts.parts
