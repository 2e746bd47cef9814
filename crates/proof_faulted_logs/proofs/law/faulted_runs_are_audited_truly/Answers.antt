use Rattle.proof_faulted_logs.proofs.Faulted.{faulted_truly}
use Rattle.proof_faulted_logs.proofs.law.faulted_runs_are_audited_truly.Goals as goal

pub returns : goal.returns
returns c = faulted_truly
