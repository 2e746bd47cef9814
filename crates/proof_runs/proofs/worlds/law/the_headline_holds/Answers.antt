use Rattle.proof_runs.proofs.worlds.Whole.{modelled}
use Rattle.proof_runs.proofs.worlds.law.the_headline_holds.Goals as goal

pub returns : goal.returns
returns c = λ s es w is_tree f. modelled s es w is_tree f
