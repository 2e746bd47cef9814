use Rattle.proof_cuts.proofs.Cuts.{cuts_grow}
use Rattle.proof_cuts.proofs.law.cuts_grow.Goals as goal

pub returns : goal.returns
returns c = cuts_grow
