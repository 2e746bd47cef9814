use Rattle.proof_reports.proofs.Reporting.{mismatches_are_reported}
use Rattle.proof_reports.proofs.law.mismatches_are_reported.Goals as goal

pub returns : goal.returns
returns c = λ tree before es w is_tree run. mismatches_are_reported tree is_tree before es w run
