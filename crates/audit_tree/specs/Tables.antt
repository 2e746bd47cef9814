-- What is kept while an audit goes on: of each process what its log says, and of each parent what it says of
-- its children's cases.
use Rattle.std.specs.Prelude.{◌≡◌, ⊤, ℕ, Bool, true, false, if◌then◌else◌, is_none, is_some, Option, Some, None, option_map, List, [], ◌∷◌, map, fold}
use Rattle.std.specs.List.{flat_map, list_all}
use Rattle.std.specs.Map.{lookup}
use Rattle.indexmap.specs.IndexMap.{insert_entry}
use Rattle.protocol.specs.declared.names.Case.{Case}
use Rattle.protocol.specs.declared.names.ProcessId.{ProcessId}
use Rattle.protocol.specs.declared.names.Ticket.{Ticket}
use Rattle.protocol.specs.declared.names.Txn.{Txn}
use Rattle.protocol.specs.declared.records.LogRecord.{LogRecord}
use Rattle.protocol.specs.declared.records.Reports.{Reports}
use Rattle.protocol.specs.declared.trees.TreeProcess.{TreeProcess}
use Rattle.protocol.specs.contracts.names.ProcessIdPartialEq.TheImpl as processes
use Rattle.protocol.specs.LogNames.{own_records}
use Rattle.protocol.specs.Names.{child_case}
use Rattle.protocol.specs.Nodes.{Role, is_listed, role_by}
use Rattle.protocol.specs.Trees.{is_unlisted, level_within}
use Rattle.log_text.specs.declared.form.LogForm.{LogForm}
use Rattle.log_rules.specs.order.Logs.{Whole, Damaged, read_as}
use Rattle.log_script.specs.Places.{placed_in}
use Rattle.protocol.specs.Audits.{KeptLogs, audited, is_case_at, naming_case}
use Rattle.audit_cases.specs.Kinds.{decided_in, decision_in, line_in, own_in}
use Rattle.coord_records.specs.Readings.{same}
use Rattle.audit_cases.specs.Notes.{CaseNote, LogNotes, NoteTable, listed_cases, listed_in, log_notes_of, no_notes, note_in, noted, place_at}
use Rattle.audit_cases.specs.Sayings.{AreSaid, Outcomes, outcome_in}
use Rattle.audit_tree.specs.declared.report.AuditError.{AuditError}
use Rattle.audit_tree.specs.declared.report.AuditError.TheVariants as error
use Rattle.audit_tree.specs.declared.report.ReportLine.{ReportLine}
use Rattle.audit_tree.specs.Reports.{other}

-- two processes are one
abbrev pub same_id : ProcessId → ProcessId → Bool
same_id = processes.ghosts.eq

-- What the logs say.

-- what the frames of a log of this form say of the cases of a process, record by record
unfoldable pub frames_notes : LogForm → List TreeProcess → TreeProcess → List ℕ → LogNotes
frames_notes f tree e frames =
    fold noted no_notes (own_records (place_at tree e) (map (λ x. x.read) (placed_in f 5 0 frames)))

-- the bytes are a sound log, and this is what its records say of the process's cases
pub record NotesLog (tree : List TreeProcess) (e : TreeProcess) (bytes : List ℕ) (n : LogNotes) : Type 0 where
  pub records : List LogRecord
  pub torn : ℕ
  pub read : read_as e.id e.kind bytes ≡ Whole records torn
  pub notes : n ≡ log_notes_of (own_records (place_at tree e) records)

-- memory was refused, or the bytes are the process's log and damaged at this place
abbrev pub IsDamage : TreeProcess → List ℕ → AuditError → Type 0
IsDamage e bytes error.Memory = ⊤
IsDamage e bytes (error.Damaged q place) = (q ≡ e.id) × (read_as e.id e.kind bytes ≡ Damaged place)

-- what is said of each process's cases
abbrev pub TreeTables : Type 0
TreeTables = List (ProcessId × LogNotes)

-- what is said of the cases of this process; nothing, if there is no such process
abbrev pub notes_or : Option LogNotes → LogNotes
notes_or None = no_notes
notes_or (Some n) = n

-- this is what the kept lists say of each listed process's cases, and these are its own, in whatever role
pub record AreNotes (tree : List TreeProcess) (logs : KeptLogs) (ts : TreeTables) : Type 0 where
  pub tables : (q : ProcessId) → is_listed tree q ≡ true
      → lookup (same_id q) ts ≡ Some (log_notes_of (logs q))
  pub own : (q : ProcessId) → is_listed tree q ≡ true → (role : Role)
      → list_all (is_case_at tree q) (listed_cases role (logs q)) ≡ true

-- What the parents say.

-- what processes say of their children's cases
abbrev pub TreeOutcomes : Type 0
TreeOutcomes = List (ProcessId × Outcomes)

-- the process has said it
abbrev pub has_said : TreeOutcomes → ProcessId → Bool
has_said said p = is_some (lookup (same_id p) said)

-- what the parent says, if there is one
abbrev pub above_of : TreeOutcomes → Option ProcessId → Option Outcomes
above_of said None = None
above_of said (Some p) = lookup (same_id p) said

-- the parent has said it, if there is one
abbrev pub has_above : TreeOutcomes → Option ProcessId → Bool
has_above said None = true
has_above said (Some p) = has_said said p

-- what a process says of its children's cases is the audit's outcome of the first of its cases that names
-- them
abbrev pub SaysTruly : List TreeProcess → KeptLogs → ProcessId → Outcomes → Type 0
SaysTruly tree logs p s = (x : Txn) (t : Ticket)
    → lookup (same (child_case x t)) s ≡ option_map (audited tree logs) (naming_case tree p x t (logs p))

-- each process that said something says it truly
abbrev pub AllTrue : List TreeProcess → KeptLogs → TreeOutcomes → Type 0
AllTrue tree logs said = (p : ProcessId) (s : Outcomes) → lookup (same_id p) said ≡ Some s
    → SaysTruly tree logs p s

-- who has said something before has done so still
abbrev pub StillSaid : TreeOutcomes → TreeOutcomes → Type 0
StillSaid old new = (p : ProcessId) → has_said old p ≡ true → has_said new p ≡ true

-- after what processes said, this one says what it does by its notes, if it has any
abbrev pub Adds : Option Outcomes → Option LogNotes → ProcessId → TreeOutcomes → TreeOutcomes → Type 0
Adds above None q old new = new ≡ old
Adds above (Some n) q old new =
    (s : Outcomes) × AreSaid above n.table s × (new ≡ insert_entry same_id old q s)

-- a listed process has now said what it does, where a climb from it ends within N steps; and all of
-- that is true
pub record Says (tree : List TreeProcess) (ts : TreeTables) (q : ProcessId) (steps : ℕ)
    (old new : TreeOutcomes) : Type 0 where
  pub still : StillSaid old new
  pub truly : (logs : KeptLogs) → AreNotes tree logs ts → is_listed tree q ≡ true
      → is_none (level_within steps tree q) ≡ false → AllTrue tree logs old → AllTrue tree logs new
  pub said : (logs : KeptLogs) → AreNotes tree logs ts → is_listed tree q ≡ true
      → is_none (level_within steps tree q) ≡ false → has_said new q ≡ true

-- a parent has now said what it does, if there is one; and all of that is true
pub record SaysAbove (tree : List TreeProcess) (ts : TreeTables) (o : Option ProcessId)
    (old new : TreeOutcomes) : Type 0 where
  pub still : StillSaid old new
  pub truly : (logs : KeptLogs) → AreNotes tree logs ts → is_unlisted tree o ≡ false → AllTrue tree logs old
      → AllTrue tree logs new
  pub said : (logs : KeptLogs) → AreNotes tree logs ts → is_unlisted tree o ≡ false → has_above new o ≡ true

-- the parents of these entries have said what they do; and all of that is true
pub record SaidFor (tree : List TreeProcess) (ts : TreeTables) (es : List TreeProcess)
    (outcomes : TreeOutcomes) : Type 0 where
  pub truly : (logs : KeptLogs) → AreNotes tree logs ts → AllTrue tree logs outcomes
  pub said : (logs : KeptLogs) → AreNotes tree logs ts → list_all (λ e. has_above outcomes e.parent) es ≡ true

-- The lines.

-- what a line says of reports: at the root what is noted, and nothing below it
abbrev pub reports_at : Option Ticket → CaseNote → Option Reports
reports_at None n = n.reports
reports_at (Some t) n = None

-- what the line of a case says of reports
abbrev pub reports_by : Case → CaseNote → Option Reports
reports_by c n = reports_at c.ticket n

-- the line of a case of which this is noted, where this is said above
abbrev pub line_by : Option Outcomes → Case → CaseNote → ReportLine
line_by above c n = record {
  case = c;
  own = own_in n.kinds;
  decision = decision_in n.kinds;
  outcome = outcome_in above c n;
  mismatch = decided_in n.kinds (other (outcome_in above c n));
  reports = reports_by c n;
}

-- the line of a case of which this is noted, if it has one
abbrev pub line_if : Role → Option Outcomes → Case → CaseNote → List ReportLine
line_if role above c n = if line_in role n.kinds then line_by above c n ∷ [] else []

-- the lines of these cases
abbrev pub lines_by : Role → Option Outcomes → NoteTable → List Case → List ReportLine
lines_by role above t cs = flat_map (λ c. line_if role above c (note_in t c)) cs

-- the lines of the cases of a process with this role
abbrev pub lines_in : Role → Option Outcomes → LogNotes → List ReportLine
lines_in role above n = lines_by role above n.table (listed_in role n)

-- the lines of the process of an entry
abbrev pub entry_lines : TreeTables → TreeOutcomes → TreeProcess → List ReportLine
entry_lines ts said e =
    lines_in (role_by e.kind e.parent) (above_of said e.parent) (notes_or (lookup (same_id e.id) ts))

-- the lines of the processes of these entries
unfoldable pub all_lines : TreeTables → TreeOutcomes → List TreeProcess → List ReportLine
all_lines ts said es = flat_map (entry_lines ts said) es
