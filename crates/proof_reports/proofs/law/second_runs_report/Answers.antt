use Rattle.proof_reports.proofs.SecondRuns.{second_runs_report}
use Rattle.proof_reports.proofs.law.second_runs_report.Goals as goal

pub returns : goal.returns
returns c = λ tree es w is_tree run by. second_runs_report tree is_tree es w run by
