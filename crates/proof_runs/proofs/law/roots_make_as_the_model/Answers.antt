use Rattle.proof_runs.proofs.RootSteps.{root_makes}
use Rattle.proof_runs.proofs.law.roots_make_as_the_model.Goals as goal

pub returns : goal.returns
returns c = λ n old new a i reaction role stands fits made. root_makes n old new a i
    reaction role stands made fits
