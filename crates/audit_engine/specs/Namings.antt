-- Which case of a process names a child's case, by what is noted of its cases, and what stands of it.
use Rattle.std.specs.Prelude.{◌≡◌, Bool, true, false, Option, Some, None, unwrap_or, List}
use Rattle.std.specs.Map.{lookup}
use Rattle.protocol.specs.declared.names.Case.{Case}
use Rattle.protocol.specs.declared.names.Ticket.{Ticket}
use Rattle.protocol.specs.declared.names.Txn.{Txn}
use Rattle.protocol.specs.Names.{child_case}
use Rattle.audit_cases.specs.declared.kinds.Kinds.{Kinds}
use Rattle.coord_records.specs.Readings.{same}
use Rattle.audit_cases.specs.Firsts.{firsts_of}
use Rattle.audit_cases.specs.Notes.{CaseNote, NoteTable}
use Rattle.audit_cases.specs.Sayings.{first_naming}
use Rattle.audit_engine.specs.declared.steps.StepFound.{StepFound}
use Rattle.audit_engine.specs.declared.steps.StepFound.TheVariants.{Kept, Nothing}
use Rattle.audit_engine.specs.declared.steps.Stands.{Stands}
use Rattle.audit_engine.specs.declared.steps.Stands.TheVariants.{Abort, Collecting, Commit, Ended, Prepare}

-- by whether a coordinator's case has a Commit, an Abort, a Prepare or an End: what stands of it
abbrev pub stands_by : Bool → Bool → Bool → Bool → Stands
stands_by true _ _ _ = Commit
stands_by false true _ _ = Abort
stands_by false false true _ = Prepare
stands_by false false false true = Ended
stands_by false false false false = Collecting

-- what stands of a coordinator's case
abbrev pub stands_in : Kinds → Stands
stands_in k = stands_by k.commit k.abort k.prepare k.ended

-- what is found where this is the first case that names the ticket, or none does
abbrev pub found_by : Option (Case × CaseNote) → StepFound
found_by None = Nothing
found_by (Some e) = Kept e.0 (stands_in e.1.kinds)

-- what a process finds of a case with this ticket: its first case of the transaction that names it
abbrev pub finds : NoteTable → Txn → Ticket → StepFound
finds notes x t = found_by (first_naming notes x t)

-- The pass.

-- what is found of cases of children
abbrev pub Founds : Type 0
Founds = List (Case × StepFound)

-- what is found of a case among these; nothing, where it is not there
abbrev pub found_at : Founds → Case → StepFound
found_at s c = unwrap_or (lookup (same c) s) Nothing

-- this is what a process finds of the cases of its children
abbrev pub AreNamed : NoteTable → Founds → Type 0
AreNamed notes s = (x : Txn) (t : Ticket) → found_at s (child_case x t) ≡ finds notes x t

-- what is found of the cases that the entries name
abbrev pub namings_of : NoteTable → Founds
namings_of notes = firsts_of (λ e. Kept e.0 (stands_in e.1.kinds)) notes
