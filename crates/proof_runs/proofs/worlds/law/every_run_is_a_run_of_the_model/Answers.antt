use Rattle.proof_runs.proofs.worlds.Whole.{run_of}
use Rattle.proof_runs.proofs.worlds.law.every_run_is_a_run_of_the_model.Goals as goal

pub returns : goal.returns
returns c = run_of
