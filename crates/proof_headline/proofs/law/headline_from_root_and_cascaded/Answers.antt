use Rattle.proof_headline.proofs.Coordinators
use Rattle.proof_headline.proofs.law.headline_from_root_and_cascaded.Goals as goal

pub returns : goal.returns
returns c = Coordinators.headline_of_runs
