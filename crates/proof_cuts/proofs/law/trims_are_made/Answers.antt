use Rattle.proof_cuts.proofs.Owns.{trims_are_made}
use Rattle.proof_cuts.proofs.law.trims_are_made.Goals as goal

pub returns : goal.returns
returns c = trims_are_made
