use Rattle.proof_headline.proofs.runs.Headline
use Rattle.proof_headline.proofs.runs.law.headline.Goals as goal

pub returns : goal.returns
returns c = λ tree es w is_tree run. Headline.headline tree is_tree es w run
