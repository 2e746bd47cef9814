use Rattle.xa_engine.proofs.Histories.{legal_history_of}
use Rattle.xa_engine.proofs.law.histories_are_legal.Goals as goal

pub returns : goal.returns
returns c = λ m n requests answers fresh leads. legal_history_of m n requests answers fresh leads
