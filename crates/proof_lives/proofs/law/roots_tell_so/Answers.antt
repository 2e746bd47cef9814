use Rattle.proof_lives.proofs.Outcomes.{roots_tell_so}
use Rattle.proof_lives.proofs.law.roots_tell_so.Goals as goal

pub returns : goal.returns
returns c = roots_tell_so
