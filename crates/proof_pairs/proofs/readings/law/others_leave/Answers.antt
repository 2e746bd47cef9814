use Rattle.proof_pairs.proofs.readings.OtherSteps
use Rattle.proof_pairs.proofs.readings.law.others_leave.Goals as goal

pub returns : goal.returns
returns c = record { moves = OtherSteps.others_leave }
