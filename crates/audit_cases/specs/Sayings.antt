-- What a process says of the cases of its children, by what is noted of its own.
use Rattle.std.specs.Prelude.{◌≡◌, Bool, ◌&&◌, Option, Some, None, unwrap_or, List, find}
use Rattle.std.specs.Map.{lookup}
use Rattle.protocol.specs.declared.names.Case.{Case}
use Rattle.protocol.specs.declared.names.Outcome.{Outcome}
use Rattle.protocol.specs.declared.names.Outcome.TheVariants.{Aborted}
use Rattle.protocol.specs.declared.names.Ticket.{Ticket}
use Rattle.protocol.specs.declared.names.Txn.{Txn}
use Rattle.protocol.specs.Names.{child_case, presumed, same_txn}
use Rattle.protocol.specs.Records.{in_list}
use Rattle.protocol.specs.Audits.{decided_or}
use Rattle.audit_cases.specs.Kinds.{decision_in}
use Rattle.coord_records.specs.Readings.{same}
use Rattle.audit_cases.specs.Firsts.{firsts_of}
use Rattle.audit_cases.specs.Notes.{CaseNote, NoteTable}

-- the outcomes of the cases of children that a process's own cases name
abbrev pub Outcomes : Type 0
Outcomes = List (Case × Outcome)

-- what is said above of a case: by the first case that names it, else by presumption; the root has nobody
-- above it, and aborts what it has not decided
abbrev pub said_by : Option Outcomes → Case → Outcome
said_by None c = Aborted
said_by (Some s) c = unwrap_or (lookup (same c) s) (presumed c.txn.presumption)

-- the outcome of a case: its own decision, or else what is said above
abbrev pub outcome_in : Option Outcomes → Case → CaseNote → Outcome
outcome_in above c n = decided_or (decision_in n.kinds) (said_by above c)

-- the entry's case is of the transaction and names the ticket
abbrev pub names : Txn → Ticket → Case × CaseNote → Bool
names x t e = same_txn e.0.txn x && in_list e.1.named t

-- the first case of the transaction that names the ticket
abbrev pub first_naming : NoteTable → Txn → Ticket → Option (Case × CaseNote)
first_naming notes x t = find (names x t) notes

-- the outcome of an entry, if there is one
abbrev pub outcome_at : Option Outcomes → Option (Case × CaseNote) → Option Outcome
outcome_at above None = None
outcome_at above (Some e) = Some (outcome_in above e.0 e.1)

-- these are the outcomes of the children's cases: of each what the first case says that names it
abbrev pub AreSaid : Option Outcomes → NoteTable → Outcomes → Type 0
AreSaid above notes s = (x : Txn) (t : Ticket)
    → lookup (same (child_case x t)) s ≡ outcome_at above (first_naming notes x t)

-- The pass.

-- the outcomes of all entries' cases
abbrev pub sayings_of : Option Outcomes → NoteTable → Outcomes
sayings_of above notes = firsts_of (λ e. outcome_in above e.0 e.1) notes
