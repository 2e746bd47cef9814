use Rattle.proof_pairs.proofs.readings.StepLaws
use Rattle.proof_pairs.proofs.readings.law.cascaded_passes_abort.Goals as goal

pub returns : goal.returns
returns c = record { moves = StepLaws.cascaded_passes_abort }
