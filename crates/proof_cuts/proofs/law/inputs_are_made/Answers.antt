use Rattle.proof_cuts.proofs.Owns.{inputs_are_made}
use Rattle.proof_cuts.proofs.law.inputs_are_made.Goals as goal

pub returns : goal.returns
returns c = inputs_are_made
