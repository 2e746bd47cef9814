use Rattle.proof_processes.proofs.ManagersHold
use Rattle.proof_processes.proofs.law.numbers_are_given_once.Goals as goal

pub returns : goal.returns
returns c = ManagersHold.numbers_are_given_once
