use Rattle.proof_runs.proofs.worlds.Whole.{keeps_headline}
use Rattle.proof_runs.proofs.worlds.law.modelled_trees_keep_the_headline.Goals as goal

pub returns : goal.returns
returns c = keeps_headline
