use Rattle.proof_xa.proofs.TurnRows.{fits}
use Rattle.proof_xa.proofs.rows.turns_are_rows.Goals as goal

pub returns : goal.returns
returns c = λ s wrote b d. fits s wrote b d
