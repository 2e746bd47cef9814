use Rattle.proof_cuts.proofs.Owns.{cuts_hold}
use Rattle.proof_cuts.proofs.law.cuts_hold.Goals as goal

pub returns : goal.returns
returns c = cuts_hold
