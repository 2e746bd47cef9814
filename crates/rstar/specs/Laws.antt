-- That the audit of the logs which a run of a tree script leaves is the audit of that run.
use Rattle.std.specs.Prelude.{◌≡◌, ℕ, List, None}
use Rattle.protocol.specs.declared.trees.TreeProcess.{TreeProcess}
use Rattle.protocol.specs.World.{World}
use Rattle.log_script.specs.declared.line.ProcessLog.{ProcessLog}
use Rattle.log_script.specs.Logs.{IsLogsText}
use Rattle.log_script.specs.Faults.{first_damage}
use Rattle.audit_tree.specs.declared.report.ReportLine.{ReportLine}
use Rattle.audit_tree.specs.Reports.{kept_lists, mismatches_in}
use Rattle.audit_tree.specs.Truths.{AreTrue}
use Rattle.audit_engine.specs.Audits.{IsAuditReport, detailed_text, ending_by}
use Rattle.audit_engine.specs.declared.detail.Detail.{Detail}
use Rattle.audit_engine.specs.declared.ending.AuditStatus.{AuditStatus}
use Rattle.report_io.specs.declared.status.Status.TheVariants.{Ended}
use Rattle.tree_engine.specs.declared.tree.TreeOutput.TheVariants.{Logs}
use Rattle.tree_engine.specs.Trees.{RunsScript}

-- the report tells lines that are true in this world, in as much detail as was asked for, and the audit ends
-- as one does with N mismatches
pub record ReportsTruly (d : Detail) (tree : List TreeProcess) (logs : List ProcessLog) (w : World)
    (ending : AuditStatus) (report : List ℕ) : Type 0 where
  pub lines : List ReportLine
  pub text : report ≡ detailed_text d tree (kept_lists tree logs) lines
  pub ends : ending ≡ ending_by (mismatches_in lines)
  pub lines_true : AreTrue w lines

-- The text says this tree and some logs of it, none of which is damaged, and the report is true in this
-- world.
pub record AuditsTruly (d : Detail) (tree : List TreeProcess) (w : World) (text : List ℕ)
    (ending : AuditStatus)
    (report : List ℕ) : Type 0 where
  pub logs : List ProcessLog
  pub says : IsLogsText text tree logs
  pub undamaged : first_damage tree logs ≡ None
  pub truly : ReportsTruly d tree logs w ending report

-- Whatever an audit writes of the logs that the run of a script left is true of just that run: of the world
-- that its moves lead to, for which the tree's state at its end stands.
abbrev pub AuditsOfLeftLogsAreTrue : Type 0
AuditsOfLeftLogsAreTrue = (input text report : List ℕ) (d : Detail) (ending : AuditStatus)
    → (script : RunsScript Logs Ended input text)
    → IsAuditReport d ending text report → AuditsTruly d script.tree script.runs.world text ending report
