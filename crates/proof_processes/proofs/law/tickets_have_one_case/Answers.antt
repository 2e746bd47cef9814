use Rattle.proof_processes.proofs.JoinedOnce
use Rattle.proof_processes.proofs.law.tickets_have_one_case.Goals as goal

pub returns : goal.returns
returns c = JoinedOnce.tickets_have_one_case
