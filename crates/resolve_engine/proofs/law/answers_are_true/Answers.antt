use Rattle.resolve_engine.proofs.TrueAnswers.{answers_true}
use Rattle.resolve_engine.proofs.law.answers_are_true.Goals as goal

pub returns : goal.returns
returns c = answers_true
