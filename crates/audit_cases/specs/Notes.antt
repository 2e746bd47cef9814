-- What the records of a log say of each case to an audit, noted record by record.
use Rattle.std.specs.Prelude.{◌≡◌, ⊤, Bool, true, false, if◌then◌else◌, Option, Some, None, unwrap_or, List, [], ◌∷◌, ◌++◌, map, fold}
use Rattle.std.specs.List.{flat_map}
use Rattle.std.specs.Map.{lookup}
use Rattle.indexmap.specs.IndexMap.{insert_entry}
use Rattle.protocol.specs.declared.names.Case.{Case}
use Rattle.protocol.specs.declared.names.Kind.{Kind}
use Rattle.protocol.specs.declared.names.Kind.TheVariants.{Coordinator, Manager}
use Rattle.protocol.specs.declared.names.Ticket.{Ticket}
use Rattle.protocol_words.specs.Variants.{CaseBranch}
use Rattle.protocol.specs.declared.records.Record.{Record}
use Rattle.protocol.specs.declared.records.Record.TheVariants.{Collecting, Prepare, Commit, Abort, End, Prepared, Cleared}
use Rattle.protocol.specs.declared.records.Reports.{Reports}
use Rattle.protocol.specs.declared.trees.TreeProcess.{TreeProcess}
use Rattle.protocol.specs.Names.{same_case}
use Rattle.protocol.specs.Nodes.{Place, Role, AtLeaf, role_by}
use Rattle.protocol.specs.Records.{cases_in, has_case, named_by, record_case}
use Rattle.protocol.specs.Audits.{since_promise}
use Rattle.coord_records.specs.Readings.{same}
use Rattle.audit_cases.specs.declared.kinds.Kinds.{Kinds}
use Rattle.audit_cases.specs.Kinds.{kinds_after, kinds_of, no_kinds}

-- Whose log it is.

-- where the process of an entry sits in the tree
abbrev pub place_at : List TreeProcess → TreeProcess → Place
place_at tree e = record { me = e.id; role = role_by e.kind e.parent; tree = tree }

-- a record that only a coordinator writes
abbrev pub is_coordinators : Record → Bool
is_coordinators (Collecting c ts) = true
is_coordinators (Prepare c ts) = true
is_coordinators (Commit c ts) = true
is_coordinators (Abort c ts) = true
is_coordinators (End c rep) = true
is_coordinators (Cleared c) = true
is_coordinators _ = false

-- a record that may be in the log of a process of this kind
abbrev pub IsRecordAt : Kind → Record → Type 0
IsRecordAt Coordinator r = ⊤
IsRecordAt Manager r = is_coordinators r ≡ false

-- What is noted of a case.

-- which records it has, a manager's from the last Prepared on, the tickets that its records name, and what
-- its End reports that was not cleared
pub record CaseNote : Type 0 where
  pub kinds : Kinds
  pub named : List Ticket
  pub reports : Option Reports

-- what is noted without a record
abbrev pub no_note : CaseNote
no_note = record { kinds = no_kinds; named = []; reports = None }

-- what is reported after one more record of the case: an End says what, and Cleared undoes it
abbrev pub reports_behind : Option Reports → Record → Option Reports
reports_behind rep (End c found) = found
reports_behind rep (Cleared c) = None
reports_behind rep _ = rep

-- what is reported of a case after one more record
abbrev pub reported_behind : Case → Option Reports → Record → Option Reports
reported_behind c rep (End d found) = if same_case d c then found else rep
reported_behind c rep (Cleared d) = if same_case d c then None else rep
reported_behind c rep _ = rep

-- what these records report of a case
unfoldable pub reported_in : List Record → Case → Option Reports
reported_in rs c = fold (reported_behind c) None rs

-- what these records say of a case
abbrev pub note_of : List Record → Case → CaseNote
note_of rs c =
    record { kinds = kinds_of c (since_promise c rs); named = named_by c rs; reports = reported_in rs c }

-- the tickets that a record names
abbrev pub tickets_in : Record → List Ticket
tickets_in (Collecting c ts) = ts
tickets_in (Prepare c ts) = ts
tickets_in (Commit c ts) = ts
tickets_in (Abort c ts) = ts
tickets_in _ = []

-- what is noted after one more record of the case
abbrev pub note_after : CaseNote → Record → CaseNote
note_after n r = record {
  kinds = kinds_after n.kinds r;
  named = n.named ++ tickets_in r;
  reports = reports_behind n.reports r;
}

-- The order.

-- the case of a Prepared
abbrev pub promised_in : Record → List Case
promised_in (Prepared (CaseBranch c) ws) = c ∷ []
promised_in _ = []

-- the cases of these records' Prepared, one after another
abbrev pub promised_by : List Record → List Case
promised_by rs = flat_map promised_in rs

-- these cases, each once, at its last place
abbrev pub last_places : List Case → List Case
last_places [] = []
last_places (c ∷ cs) = if has_case cs c then last_places cs else c ∷ last_places cs

-- a process's cases in the order in which an audit lists them, by those in order of their first records and
-- those of its Prepared: a manager's stand where they are read from, at their last Prepared
abbrev pub listed_by : Role → List Case → List Case → List Case
listed_by (AtLeaf p) recorded promised = last_places promised
listed_by _ recorded promised = recorded

-- the cases of these records in the order in which an audit lists them
abbrev pub listed_cases : Role → List Record → List Case
listed_cases role rs = listed_by role (cases_in rs) (promised_by rs)

-- The pass.

-- for each case, in order of the first records, what is noted of it
abbrev pub NoteTable : Type 0
NoteTable = List (Case × CaseNote)

-- what is noted of a process: its cases, and those of its Prepared, one after another
pub record LogNotes : Type 0 where
  pub table : NoteTable
  pub promised : List Case

-- nothing is noted
abbrev pub no_notes : LogNotes
no_notes = record { table = []; promised = [] }

-- what is noted of a case
abbrev pub note_in : NoteTable → Case → CaseNote
note_in t c = unwrap_or (lookup (same c) t) no_note

-- the table after one more record of the case
abbrev pub noted_of : NoteTable → Case → Record → NoteTable
noted_of t c r = insert_entry same t c (note_after (note_in t c) r)

-- what is noted after one more record, of this case if it is of any
abbrev pub noted_by : LogNotes → Record → Option Case → LogNotes
noted_by n r None = n
noted_by n r (Some c) = record { table = noted_of n.table c r; promised = n.promised ++ promised_in r }

-- what is noted after one more record
abbrev pub noted : LogNotes → Record → LogNotes
noted n r = noted_by n r (record_case r)

-- what all these records say of the cases
abbrev pub notes_of : List Record → NoteTable
notes_of rs = map (λ c. (c, note_of rs c)) (cases_in rs)

-- what is noted of all these records
abbrev pub log_notes_of : List Record → LogNotes
log_notes_of rs = record { table = notes_of rs; promised = promised_by rs }

-- the cases of which this is noted, in the order in which an audit lists them
abbrev pub listed_in : Role → LogNotes → List Case
listed_in role n = listed_by role (map (λ e. e.0) n.table) n.promised
