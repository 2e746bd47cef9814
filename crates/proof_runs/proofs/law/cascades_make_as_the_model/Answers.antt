use Rattle.proof_runs.proofs.CascadeSteps.{cascade_makes}
use Rattle.proof_runs.proofs.law.cascades_make_as_the_model.Goals as goal

pub returns : goal.returns
returns c = λ n old new p a i reaction role stands fits late made. cascade_makes n old
    new p a i reaction role stands
    made fits late
