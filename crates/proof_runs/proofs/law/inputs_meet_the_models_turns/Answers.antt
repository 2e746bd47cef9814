use Rattle.proof_runs.proofs.Turns.{meets_as}
use Rattle.proof_runs.proofs.law.inputs_meet_the_models_turns.Goals as goal

pub returns : goal.returns
returns c = λ n s a found i stands fit finds. meets_as n s a found i fit finds stands
