use Rattle.proof_judged_runs.proofs.Histories.{report_legal}
use Rattle.proof_judged_runs.proofs.law.reports_conform.Goals as goal

pub returns : goal.returns
returns c = report_legal
