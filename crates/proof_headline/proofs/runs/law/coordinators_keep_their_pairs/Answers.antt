use Rattle.proof_headline.proofs.runs.Headline
use Rattle.proof_headline.proofs.runs.law.coordinators_keep_their_pairs.Goals as goal

pub returns-clause-root : goal.returns-clause-root
returns-clause-root c = Headline.root_laws

pub returns-clause-cascaded : goal.returns-clause-cascaded
returns-clause-cascaded c = Headline.cascaded_laws
