use Rattle.proof_cuts.proofs.Owns.{restarts_are_made}
use Rattle.proof_cuts.proofs.law.restarts_are_made.Goals as goal

pub returns : goal.returns
returns c = restarts_are_made
