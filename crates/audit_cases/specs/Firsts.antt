-- What is kept of the cases of children, by the first case that names them.
use Rattle.std.specs.Prelude.{if◌then◌else◌, is_some, List, [], fold}
use Rattle.std.specs.Map.{lookup}
use Rattle.indexmap.specs.IndexMap.{insert_entry}
use Rattle.protocol.specs.declared.names.Case.{Case}
use Rattle.protocol.specs.declared.names.Ticket.{Ticket}
use Rattle.protocol.specs.declared.names.Txn.{Txn}
use Rattle.protocol.specs.Names.{child_case}
use Rattle.coord_records.specs.Readings.{same}
use Rattle.audit_cases.specs.Notes.{CaseNote, NoteTable}

module _ {A : Type 0} where
  -- these with what is kept of a child's case, unless something was before
  abbrev pub with_first : List (Case × A) → Case → A → List (Case × A)
  with_first s c v = if is_some (lookup (same c) s) then s else insert_entry same s c v

  -- these with what is kept of the cases of these tickets
  abbrev pub with_named : Txn → A → List (Case × A) → List Ticket → List (Case × A)
  with_named x v s ts = fold (λ t u. with_first t (child_case x u) v) s ts

  -- these with what is kept for an entry, of the cases that it names
  abbrev pub with_entry : (Case × CaseNote → A) → List (Case × A) → Case × CaseNote → List (Case × A)
  with_entry kept s e = with_named e.0.txn (kept e) s e.1.named

  -- what is kept for all entries, the first that names a ticket before the others
  abbrev pub firsts_of : (Case × CaseNote → A) → NoteTable → List (Case × A)
  firsts_of kept notes = fold (with_entry kept) [] notes
