use Rattle.proof_pairs.proofs.readings.RootStep
use Rattle.proof_pairs.proofs.readings.law.root_decides.Goals as goal

pub returns : goal.returns
returns c = record { moves = RootStep.root_decides }
