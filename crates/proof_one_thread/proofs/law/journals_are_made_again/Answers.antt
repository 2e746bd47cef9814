use Rattle.proof_one_thread.proofs.Again.{made_again}
use Rattle.proof_one_thread.proofs.law.journals_are_made_again.Goals as goal

pub returns : goal.returns
returns c = made_again
