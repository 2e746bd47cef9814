use Rattle.protocol.proofs.RunLaws.{runs_by_are_runs}
use Rattle.proof_headline.proofs.runs.Headline
use Rattle.proof_headline.proofs.runs.law.headline_of_reopened_trees.Goals as goal

pub returns : goal.returns
returns c = λ tree v before es w is_tree run. Headline.headline tree is_tree es w
    (runs_by_are_runs tree v before es w run)
