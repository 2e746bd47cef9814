use Rattle.proof_cuts.proofs.Owns.{opens_own}
use Rattle.proof_cuts.proofs.law.opens_own.Goals as goal

pub returns : goal.returns
returns c = opens_own
