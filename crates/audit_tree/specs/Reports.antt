-- What an audit of the logs of a tree finds.
use Rattle.std.specs.Prelude.{◌≡◌, ℕ, ⊤, Bool, true, Option, Some, None, List, [], map, filter, find, count_by}
use Rattle.std.specs.List.{flat_map}
use Rattle.protocol.specs.declared.names.Case.{Case}
use Rattle.protocol.specs.declared.names.Kind.{Kind}
use Rattle.protocol.specs.declared.names.Kind.TheVariants.{Coordinator}
use Rattle.protocol.specs.declared.names.Outcome.{Outcome}
use Rattle.protocol.specs.declared.names.Outcome.TheVariants.{Committed, Aborted}
use Rattle.protocol.specs.declared.names.ProcessId.{ProcessId}
use Rattle.protocol.specs.declared.names.Ticket.{Ticket}
use Rattle.protocol.specs.declared.records.LogRecord.{LogRecord}
use Rattle.protocol.specs.declared.records.Record.{Record}
use Rattle.protocol.specs.declared.records.Reports.{Reports}
use Rattle.protocol.specs.declared.trees.TreeProcess.{TreeProcess}
use Rattle.protocol.specs.LogNames.{own_records}
use Rattle.protocol.specs.Names.{process_of, same_process}
use Rattle.protocol.specs.Nodes.{place_of, role_of}
use Rattle.protocol.specs.Records.{has, is_decided}
use Rattle.log_rules.specs.order.Logs.{LogReading, Whole, Damaged, read_as}
use Rattle.log_script.specs.Faults.{first_damage}
use Rattle.log_script.specs.declared.line.ProcessLog.{ProcessLog}
use Rattle.log_script.specs.Logs.{bytes_of}
use Rattle.protocol.specs.Audits.{KeptLogs, ShowsMismatch, audited, has_line, own_decision, since_promise}
use Rattle.audit_cases.specs.Kinds.{own_of}
use Rattle.audit_cases.specs.Notes.{listed_cases, reported_in}
use Rattle.audit_tree.specs.declared.report.AuditError.{AuditError}
use Rattle.audit_tree.specs.declared.report.AuditError.TheVariants as error
use Rattle.audit_tree.specs.declared.report.ReportLine.{ReportLine}
use Rattle.audit_tree.specs.declared.report.Report.{Report}

-- What the processes keep.

-- the records of a log that is sound
abbrev pub whole_records : LogReading → List LogRecord
whole_records (Whole ls torn) = ls
whole_records (Damaged place) = []

-- the kind of an entry; a coordinator's if there is none
abbrev pub entry_kind : Option TreeProcess → Kind
entry_kind None = Coordinator
entry_kind (Some e) = e.kind

-- the kind of a process
abbrev pub kind_in : List TreeProcess → ProcessId → Kind
kind_in tree q = entry_kind (find (λ e. same_process e.id q) tree)

-- the kept list of each process: the records of its log, as the process reads them
unfoldable pub kept_lists : List TreeProcess → List ProcessLog → KeptLogs
kept_lists tree logs q =
    own_records (place_of tree q) (whole_records (read_as q (kind_in tree q) (bytes_of logs q)))

-- The lines.

-- the other outcome
abbrev pub other : Outcome → Outcome
other Committed = Aborted
other Aborted = Committed

-- an operator decided the case against this outcome
abbrev pub is_against : List TreeProcess → KeptLogs → Case → Outcome → Bool
is_against tree logs c o = has (is_decided c (other o)) (since_promise c (logs (process_of c)))

-- what the root's End reports of a case, until it is cleared; of a case below the root nothing
abbrev pub reports_for : Option Ticket → List Record → Case → Option Reports
reports_for None rs c = reported_in rs c
reports_for (Some t) rs c = None

-- the line of a case: how it stands by its own records, its own decision, its outcome, whether an operator
-- decided against that, and at the root what its End reports
abbrev pub line_of : List TreeProcess → KeptLogs → Case → ReportLine
line_of tree logs c = record {
  case = c;
  own = own_of c (since_promise c (logs (process_of c)));
  decision = own_decision c (logs (process_of c));
  outcome = audited tree logs c;
  mismatch = is_against tree logs c (audited tree logs c);
  reports = reports_for c.ticket (logs (process_of c)) c;
}

-- the lines of a process's cases, in the order in which an audit lists them
abbrev pub lines_at : List TreeProcess → KeptLogs → ProcessId → List ReportLine
lines_at tree logs q =
    map (line_of tree logs) (filter (has_line tree logs) (listed_cases (role_of tree q) (logs q)))

-- the lines of all processes, in the order of the tree
unfoldable pub lines_of : List TreeProcess → KeptLogs → List ReportLine
lines_of tree logs = flat_map (λ e. lines_at tree logs e.id) tree

-- how many lines show a mismatch
abbrev pub mismatches_in : List ReportLine → ℕ
mismatches_in ls = count_by (λ l. l.mismatch) ls

-- What is found.

-- the report of sound logs
pub record IsReportOfLogs (tree : List TreeProcess) (logs : List ProcessLog) (r : Report) : Type 0 where
  pub sound : first_damage tree logs ≡ None
  pub lines : r.lines.items ≡ lines_of tree (kept_lists tree logs)
  pub mismatches : r.mismatches ≡ mismatches_in r.lines.items

-- memory was refused, or the log of this process is the first in the order of the tree that is damaged,
-- at this place
abbrev pub IsNoReport : List TreeProcess → List ProcessLog → AuditError → Type 0
IsNoReport tree logs error.Memory = ⊤
IsNoReport tree logs (error.Damaged q place) = first_damage tree logs ≡ Some (q, place)

-- the number of an error
abbrev pub audit_error_number : AuditError → ℕ
audit_error_number (error.Damaged q place) = 1
audit_error_number error.Memory = 2

-- a line of a case shows a mismatch just where the audit's definition says so, of some decision
pub record LinesTellMismatches (tree : List TreeProcess) (logs : KeptLogs) : Type 0 where
  pub shown : (c : Case) → has_line tree logs c ≡ true → (line_of tree logs c).mismatch ≡ true
      → (o : Outcome) × ShowsMismatch tree logs c o
  pub told : (c : Case) (o : Outcome) → ShowsMismatch tree logs c o → (line_of tree logs c).mismatch ≡ true
