use Rattle.proof_reports.proofs.Reported.{reported_had_mismatch}
use Rattle.proof_reports.proofs.law.reported_had_mismatch.Goals as goal

pub returns : goal.returns
returns c = λ tree es w is_tree run. reported_had_mismatch tree is_tree es w run
