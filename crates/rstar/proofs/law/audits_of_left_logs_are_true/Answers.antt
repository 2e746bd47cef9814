use Rattle.rstar.proofs.Truly.{audits_true}
use Rattle.rstar.proofs.law.audits_of_left_logs_are_true.Goals as goal

pub returns : goal.returns
returns c = audits_true
