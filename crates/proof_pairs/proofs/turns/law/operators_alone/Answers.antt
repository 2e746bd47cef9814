use Rattle.proof_pairs.proofs.turns.Operators.{by_operator_alone}
use Rattle.proof_pairs.proofs.turns.law.operators_alone.Goals as goal

pub returns : goal.returns
returns c = by_operator_alone
