use Rattle.proof_headline.proofs.auditor.Audit.{audits_are_true}
use Rattle.proof_headline.proofs.runs.Headline
use Rattle.proof_headline.proofs.runs.law.audits_are_true.Goals as goal

pub returns : goal.returns
returns c = λ tree es w is_tree run up.
    audits_are_true tree es w is_tree run (Headline.the_world_holds tree is_tree es w run) up
