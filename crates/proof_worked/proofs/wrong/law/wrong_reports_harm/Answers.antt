use Rattle.proof_worked.proofs.wrong.Reporting
use Rattle.proof_worked.proofs.wrong.law.wrong_reports_harm.Goals as goal

pub returns : goal.returns
returns c = record {
  acknowledges_before_children = Reporting.acknowledges_before_children_harms;
  unknown_reports_nothing = Reporting.unknown_reports_nothing_harms;
}
