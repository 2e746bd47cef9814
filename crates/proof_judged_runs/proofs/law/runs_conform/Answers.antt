use Rattle.proof_judged_runs.proofs.Histories.{runs_legal}
use Rattle.proof_judged_runs.proofs.law.runs_conform.Goals as goal

pub returns : goal.returns
returns c = runs_legal
