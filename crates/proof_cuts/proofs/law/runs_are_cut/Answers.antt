use Rattle.proof_cuts.proofs.Cuts.{runs_are_cut}
use Rattle.proof_cuts.proofs.law.runs_are_cut.Goals as goal

pub returns : goal.returns
returns c = runs_are_cut
