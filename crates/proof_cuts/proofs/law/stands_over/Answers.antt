use Rattle.proof_cuts.proofs.Turns.{stands_over}
use Rattle.proof_cuts.proofs.law.stands_over.Goals as goal

pub returns : goal.returns
returns c = stands_over
