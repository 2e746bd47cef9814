use Rattle.proof_runs.proofs.Opened.{opened_stands}
use Rattle.proof_runs.proofs.law.opened_stands.Goals as goal

pub returns : goal.returns
returns c = opened_stands
