-- What is written of an audit.
use Rattle.std.specs.Prelude.{◌≡◌, ℕ, nat_eq, true, false, if◌then◌else◌, List, ◌++◌, None, ⊤}
use Rattle.std.specs.List.{flat_map}
use Rattle.protocol.specs.declared.trees.TreeProcess.{TreeProcess}
use Rattle.log_script.specs.declared.line.ProcessLog.{ProcessLog}
use Rattle.log_script.specs.Logs.{IsLogsText}
use Rattle.log_script.specs.Faults.{first_damage}
use Rattle.protocol.specs.Audits.{KeptLogs}
use Rattle.audit_tree.specs.Reports.{kept_lists, lines_of, mismatches_in}
use Rattle.audit_tree.specs.Truths.{AreTrueOfRuns}
use Rattle.audit_tree.specs.declared.report.ReportLine.{ReportLine}
use Rattle.audit_engine.specs.Explanations.{explained_line}
use Rattle.audit_engine.specs.Lines.{count_text, lines_text}
use Rattle.log_script.specs.Refusals.{RefusesLogText, TellsDamage}
use Rattle.audit_engine.specs.declared.detail.Detail.{Detail}
use Rattle.audit_engine.specs.declared.detail.Detail.TheVariants as detail
use Rattle.audit_engine.specs.declared.ending.AuditStatus.{AuditStatus}
use Rattle.audit_engine.specs.declared.ending.AuditStatus.TheVariants as ending

-- The text of a report.

-- the lines of cases, and after them the number of mismatches
unfoldable pub report_text : List ReportLine → List ℕ
report_text ls = lines_text ls ++ count_text (mismatches_in ls)

-- the lines of cases in these logs of this tree, each explained that is in doubt, shows a mismatch or reports
-- tickets, and after them the number of mismatches
unfoldable pub explained_text : List TreeProcess → KeptLogs → List ReportLine → List ℕ
explained_text tree logs ls = flat_map (explained_line tree logs) ls ++ count_text (mismatches_in ls)

-- the text of lines in these logs of this tree, by how much is written of them
abbrev pub detailed_text : Detail → List TreeProcess → KeptLogs → List ReportLine → List ℕ
detailed_text detail.Lines tree logs ls = report_text ls
detailed_text detail.Explained tree logs ls = explained_text tree logs ls

-- What is written of an input.

-- what an audit finds in these logs of this tree
abbrev pub audit_lines : List TreeProcess → List ProcessLog → List ReportLine
audit_lines tree logs = lines_of tree (kept_lists tree logs)

-- no log is damaged, and the text is the report
pub record Reports (d : Detail) (tree : List TreeProcess) (logs : List ProcessLog)
    (text : List ℕ) : Type 0 where
  pub sound : first_damage tree logs ≡ None
  pub report : text ≡ detailed_text d tree (kept_lists tree logs) (audit_lines tree logs)

-- what is written of logs that were read, by how the run ends
abbrev pub IsAudited : Detail → AuditStatus → List TreeProcess → List ProcessLog → List ℕ → Type 0
IsAudited d ending.Agrees tree logs text =
    Reports d tree logs text × (nat_eq (mismatches_in (audit_lines tree logs)) 0 ≡ true)
IsAudited d ending.Differs tree logs text =
    Reports d tree logs text × (nat_eq (mismatches_in (audit_lines tree logs)) 0 ≡ false)
IsAudited d ending.Refused tree logs text = TellsDamage tree logs text

-- the text is that of the tree and the logs that the input says
pub record AuditsLogs (d : Detail) (e : AuditStatus) (input text : List ℕ) : Type 0 where
  pub tree : List TreeProcess
  pub logs : List ProcessLog
  pub says : IsLogsText input tree logs
  pub audits : IsAudited d e tree logs text

-- a damaged log is told, or the input is refused
pub data IsRefusal (d : Detail) (input text : List ℕ) : Type 0 where
  OfLog : AuditsLogs d ending.Refused input text → IsRefusal d input text
  OfInput : RefusesLogText input text → IsRefusal d input text

-- what is written of an input, by how the run ends
abbrev pub IsAuditReport : Detail → AuditStatus → List ℕ → List ℕ → Type 0
IsAuditReport d ending.Agrees input text = AuditsLogs d ending.Agrees input text
IsAuditReport d ending.Differs input text = AuditsLogs d ending.Differs input text
IsAuditReport d ending.Refused input text = IsRefusal d input text

-- the text is a report of the tree and the logs that the input says, and its lines are true of every run of
-- the model that left these logs
pub record ReportsRuns (d : Detail) (input text : List ℕ) : Type 0 where
  pub tree : List TreeProcess
  pub logs : List ProcessLog
  pub says : IsLogsText input tree logs
  pub lines : List ReportLine
  pub report : text ≡ detailed_text d tree (kept_lists tree logs) lines
  pub true_of_runs : AreTrueOfRuns tree logs lines

-- what is written is true of every run that left the logs, unless a log is damaged or the input was refused
abbrev pub IsTrueReport : Detail → AuditStatus → List ℕ → List ℕ → Type 0
IsTrueReport d ending.Agrees input text = ReportsRuns d input text
IsTrueReport d ending.Differs input text = ReportsRuns d input text
IsTrueReport d ending.Refused input text = ⊤

-- how an audit with N mismatches ends
abbrev pub ending_by : ℕ → AuditStatus
ending_by n = if nat_eq n 0 then ending.Agrees else ending.Differs

-- the exit status
abbrev pub ending_number : AuditStatus → ℕ
ending_number ending.Agrees = 0
ending_number ending.Refused = 1
ending_number ending.Differs = 3
