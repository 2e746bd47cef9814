use Rattle.proof_cuts.proofs.Owns.{ends_modelled}
use Rattle.proof_cuts.proofs.law.ends_modelled.Goals as goal

pub returns : goal.returns
returns c = ends_modelled
