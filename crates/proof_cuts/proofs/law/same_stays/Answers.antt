use Rattle.proof_cuts.proofs.Owns.{same_stays}
use Rattle.proof_cuts.proofs.law.same_stays.Goals as goal

pub returns : goal.returns
returns c = same_stays
