use Rattle.proof_cuts.proofs.Turns.{turns_enter}
use Rattle.proof_cuts.proofs.law.turns_enter.Goals as goal

pub returns : goal.returns
returns c = turns_enter
