-- How many cases of a tree are in doubt, by the logs of its processes.
use Rattle.std.specs.Prelude.{◌≡◌, ◌⊎◌, ℕ, zero, suc, Bool, true, false, nat_eq, nat_lt, ◌&&◌, if◌then◌else◌, None, Some, List, count_by}
use Rattle.protocol.specs.declared.names.ProcessId.{ProcessId}
use Rattle.protocol.specs.declared.trees.TreeProcess.{TreeProcess}
use Rattle.tree_script.specs.declared.script.ScriptFault.{ScriptFault}
use Rattle.log_script.specs.declared.line.ProcessLog.{ProcessLog}
use Rattle.log_script.specs.Faults.{first_damage}
use Rattle.log_script.specs.Logs.{IsLogsFault, IsLogsText}
use Rattle.audit_cases.specs.declared.kinds.Own.{Own}
use Rattle.audit_cases.specs.declared.kinds.Own.TheVariants as own
use Rattle.audit_tree.specs.Reports.{kept_lists, lines_of}
use Rattle.audit_tree.specs.declared.report.ReportLine.{ReportLine}

-- a case that stands so is in doubt: its process promised, and knows no outcome
abbrev pub is_doubt : Own → Bool
is_doubt own.InDoubt = true
is_doubt _ = false

-- how many of these lines of an audit are of a case in doubt
abbrev pub doubts_of : List ReportLine → ℕ
doubts_of ls = count_by (λ l. is_doubt l.own) ls

-- the input says a tree and its logs, none of which is damaged, and an audit of them has this number of lines
-- of cases in doubt
pub record CountsDoubts (input : List ℕ) (count : ℕ) : Type 0 where
  pub tree : List TreeProcess
  pub logs : List ProcessLog
  pub says : IsLogsText input tree logs
  pub sound : first_damage tree logs ≡ None
  pub counted : count ≡ doubts_of (lines_of tree (kept_lists tree logs))

-- the input says a tree and its logs, and this log is damaged there
pub record HasDamage (input : List ℕ) : Type 0 where
  pub tree : List TreeProcess
  pub logs : List ProcessLog
  pub says : IsLogsText input tree logs
  pub process : ProcessId
  pub place : ℕ
  pub damaged : first_damage tree logs ≡ Some (process, place)

-- the input is refused, or one of its logs is damaged
abbrev pub HasNoCount : List ℕ → Type 0
HasNoCount input = ((fault : ScriptFault) × IsLogsFault input fault) ⊎ HasDamage input

-- the status of an audit that counts the cases in doubt: that of the audit alone, and the count
abbrev pub status_of : ℕ → ℕ → ℕ
status_of audited doubts = if nat_eq audited 0 && nat_lt 0 doubts then 5 else audited
