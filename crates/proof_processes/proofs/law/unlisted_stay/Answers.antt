use Rattle.proof_processes.proofs.Unlisted
use Rattle.proof_processes.proofs.law.unlisted_stay.Goals as goal

pub returns : goal.returns
returns c = Unlisted.unlisted_stay
