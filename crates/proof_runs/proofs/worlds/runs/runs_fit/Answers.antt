use Rattle.proof_runs.proofs.worlds.Fitting.{runs_fit}
use Rattle.proof_runs.proofs.worlds.runs.runs_fit.Goals as goal

pub returns : goal.returns
returns c = runs_fit
