use Rattle.proof_cuts.proofs.Turns.{turns_go_on}
use Rattle.proof_cuts.proofs.law.turns_go_on.Goals as goal

pub returns : goal.returns
returns c = turns_go_on
