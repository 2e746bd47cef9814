use Rattle.proof_cuts.proofs.Owns.{one_stands}
use Rattle.proof_cuts.proofs.law.one_stands.Goals as goal

pub returns : goal.returns
returns c = one_stands
