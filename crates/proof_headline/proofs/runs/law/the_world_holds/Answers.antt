use Rattle.proof_headline.proofs.runs.Headline
use Rattle.proof_headline.proofs.runs.law.the_world_holds.Goals as goal

pub returns : goal.returns
returns c = λ tree es w is_tree run. Headline.the_world_holds tree is_tree es w run
