use Rattle.proof_cuts.proofs.Owns.{enters_own}
use Rattle.proof_cuts.proofs.law.enters_own.Goals as goal

pub returns : goal.returns
returns c = enters_own
