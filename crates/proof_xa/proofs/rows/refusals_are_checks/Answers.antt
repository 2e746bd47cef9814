use Rattle.proof_xa.proofs.TurnRows.{checks_alone}
use Rattle.proof_xa.proofs.rows.refusals_are_checks.Goals as goal

pub returns : goal.returns
returns c = λ s v x flags answer w off. checks_alone s v x flags answer w off
