use Rattle.proof_runs.proofs.worlds.Openings.{opened_follows}
use Rattle.proof_runs.proofs.worlds.law.opened_trees_stand_for_the_first_run.Goals as goal

pub returns : goal.returns
returns c = opened_follows
