use Rattle.proof_cuts.proofs.Cuts.{cuts_are_runs}
use Rattle.proof_cuts.proofs.law.cuts_are_runs.Goals as goal

pub returns : goal.returns
returns c = cuts_are_runs
