use Rattle.proof_cuts.proofs.Alone.{alone_is_together}
use Rattle.proof_cuts.proofs.law.alone_is_together.Goals as goal

pub returns : goal.returns
returns c = alone_is_together
