use Rattle.proof_headline.proofs.Managers
use Rattle.proof_headline.proofs.law.headline_from_coordinators.Goals as goal

pub returns-clause-enough : goal.returns-clause-enough
returns-clause-enough c = Managers.coordinators_are_enough

pub returns-clause-headline : goal.returns-clause-headline
returns-clause-headline c = Managers.headline_from_coordinators
