use Rattle.proof_worked.proofs.wrong.Reporting
use Rattle.proof_worked.proofs.wrong.law.wrong_reports.Goals as goal

pub returns : goal.returns
returns c = record {
  acknowledges_before_children = Reporting.acknowledges_before_children_breaks;
  unknown_reports_nothing = Reporting.unknown_reports_nothing_breaks;
}
