use Rattle.proof_headline.proofs.Headline
use Rattle.proof_headline.proofs.law.headline_from_processes.Goals as goal

pub returns : goal.returns
returns c = Headline.headline
