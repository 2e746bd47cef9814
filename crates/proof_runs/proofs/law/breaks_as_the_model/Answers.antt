use Rattle.proof_runs.proofs.Faults.{breaks_so}
use Rattle.proof_runs.proofs.law.breaks_as_the_model.Goals as goal

pub returns : goal.returns
returns c = λ n old new a i stands fit broken. breaks_so n old new a i stands broken fit
