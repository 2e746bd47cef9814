use Rattle.proof_processes.proofs.BootsHold.{boots_hold}
use Rattle.proof_processes.proofs.law.boots_rise.Goals as goal

pub returns : goal.returns
returns c = boots_hold
