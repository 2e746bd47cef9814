-- What is written is true of every run that left the logs.
use Rattle.std.proofs.Common.{List, ℕ}
use Rattle.audit_tree.proofs.Truths.{true_of_runs}
use Rattle.audit_engine.specs.Audits.{AuditsLogs, IsAuditReport, IsTrueReport, Reports, ReportsRuns, audit_lines}
use Rattle.audit_engine.specs.declared.detail.Detail.{Detail}
use Rattle.audit_engine.specs.declared.ending.AuditStatus.{AuditStatus}
use Rattle.audit_engine.specs.declared.ending.AuditStatus.TheVariants as ending

of_logs : (d : Detail) (e : AuditStatus) (input text : List ℕ) (a : AuditsLogs d e input text)
    → Reports d a.tree a.logs text
    → ReportsRuns d input text
of_logs d e input text a reports = record {
  tree = a.tree;
  logs = a.logs;
  says = a.says;
  lines = audit_lines a.tree a.logs;
  report = reports.report;
  true_of_runs = true_of_runs a.tree a.says.2.is_tree a.logs;
}

-- the report of an input is true of every run that left its logs
pub true_report : (d : Detail) (e : AuditStatus) (input text : List ℕ) → IsAuditReport d e input text
    → IsTrueReport d e input text
true_report d ending.Agrees input text a = of_logs d ending.Agrees input text a a.audits.0
true_report d ending.Differs input text a = of_logs d ending.Differs input text a a.audits.0
true_report d ending.Refused input text a = tt
