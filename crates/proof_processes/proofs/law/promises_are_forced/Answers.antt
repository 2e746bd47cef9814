use Rattle.proof_processes.proofs.Yesses.{yes_is_forced}
use Rattle.proof_processes.proofs.law.promises_are_forced.Goals as goal

pub returns : goal.returns
returns c = yes_is_forced
