-- The lines are the audit's.
use Rattle.std.proofs.Common.{◌≡◌, ◌∙◌, ◌&&◌, Bool, true, false, if◌then◌else◌, Option, Some, None, List, [], ◌∷◌, ◌++◌, map, filter, refl, sym, ap, append-nil, append_assoc}
use Rattle.std.specs.List.{flat_map, list_all}
use Rattle.protocol.specs.declared.names.Case.{Case}
use Rattle.protocol.specs.declared.names.Ticket.{Ticket}
use Rattle.protocol.specs.declared.records.Record.{Record}
use Rattle.protocol.specs.declared.trees.TreeProcess.{TreeProcess}
use Rattle.protocol.specs.Nodes.{Role, is_listed, role_by, role_of}
use Rattle.protocol.specs.Records.{cases_in, has, is_decided}
use Rattle.protocol.specs.Trees.{IsTree}
use Rattle.protocol.specs.Audits.{KeptLogs, audited, has_line, has_line_in, is_case_at, own_decision, since_promise}
use Rattle.audit_cases.specs.Kinds.{decided_in, kinds_of, line_in, own_of}
use Rattle.audit_cases.specs.Notes.{CaseNote, listed_by, listed_cases, listed_in, log_notes_of, note_of, notes_of, promised_by}
use Rattle.audit_cases.specs.Sayings.{Outcomes, outcome_in}
use Rattle.audit_cases.proofs.KindLaws.{decided_is, decision_is, line_is, own_is}
use Rattle.audit_cases.proofs.NoteLaws.{note_is}
use Rattle.audit_tree.specs.declared.report.ReportLine.{ReportLine}
use Rattle.audit_tree.specs.Reports.{line_of, lines_at, lines_of, other, reports_for}
use Rattle.audit_tree.specs.Tables.{AllTrue, AreNotes, SaidFor, TreeOutcomes, TreeTables, above_of, all_lines, entry_lines, has_above, line_by, line_if, lines_by, lines_in, notes_or, reports_at}
use Rattle.audit_tree.proofs.Climbs.{above_is}
use Rattle.audit_tree.proofs.Outcomes.{case_at, outcome_is}
use Rattle.audit_tree.proofs.OwnCases.{EachCase, each_if}
use Rattle.audit_tree.proofs.TreePlaces.{Each, IsFound, each_found, listed_if, role_if}

first_of : (a b : Bool) → (a && b) ≡ true → a ≡ true
first_of true b h = refl
first_of false b h = absurd (cc)

second_of : (a b : Bool) → (a && b) ≡ true → b ≡ true
second_of true b h = h
second_of false b h = absurd (cc)

-- The line of a case, where its process's list is given.

-- the line of a case by its process's list
line_from : List TreeProcess → KeptLogs → List Record → Case → ReportLine
line_from tree logs rs c = record {
  case = c;
  own = own_of c (since_promise c rs);
  decision = own_decision c rs;
  outcome = audited tree logs c;
  mismatch = has (is_decided c (other (audited tree logs c))) (since_promise c rs);
  reports = reports_for c.ticket rs c;
}

-- what is noted of reports is what the process's list says of them
reports_are : (t : Option Ticket) (rs : List Record) (c : Case)
    → reports_at t (note_of rs c) ≡ reports_for t rs c
reports_are None rs c = refl
reports_are (Some t) rs c = refl

module _ (tree : List TreeProcess) (logs : KeptLogs) (e : TreeProcess)
    (found : IsFound tree e) (above : Option Outcomes)
    (says : (c : Case) → is_case_at tree e.id c ≡ true
    → outcome_in above c (note_of (logs e.id) c) ≡ audited tree logs c) where
  line_is_that : (c : Case) → is_case_at tree e.id c ≡ true
      → line_by above c (note_of (logs e.id) c) ≡ line_of tree logs c
  unfolding line_from
  line_is_that c own =
      (λ i. record {
        case = c;
        own = own_is c (since_promise c (logs e.id)) i;
        decision = decision_is c (logs e.id) i;
        outcome = says c own i;
        mismatch = (ap (λ o. decided_in (kinds_of c (since_promise c (logs e.id))) (other o)) (says c own)
            ∙ decided_is c (other (audited tree logs c)) (since_promise c (logs e.id))) i;
        reports = reports_are c.ticket (logs e.id) c i;
      })
      ∙ ap (λ q. line_from tree logs (logs q) c) (sym (case_at tree logs e.id c own))

  shown_is : (c : Case) → is_case_at tree e.id c ≡ true
      → line_in (role_by e.kind e.parent) (kinds_of c (since_promise c (logs e.id))) ≡ has_line tree logs c
  shown_is c own =
      let here = case_at tree logs e.id c own in
      line_is (role_by e.kind e.parent) c (since_promise c (logs e.id))
      ∙ ap (λ r. has_line_in r c (since_promise c (logs e.id))) (sym (role_if tree e.id e found))
      ∙ sym (ap (λ b. b && has_line_in (role_of tree e.id) c (since_promise c (logs e.id))) own)
      ∙ sym (ap (λ b. b && (is_case_at tree e.id c
      && has_line_in (role_of tree e.id) c (since_promise c (logs e.id))))
      (listed_if tree e.id e found))
      ∙ ap (λ q. is_listed tree q && (is_case_at tree q c
      && has_line_in (role_of tree q) c (since_promise c (logs q)))) (sym here)

  cases_lines : (cs : List Case) → EachCase (λ c. is_case_at tree e.id c ≡ true) cs
      → lines_by (role_by e.kind e.parent) above (notes_of (logs e.id)) cs
      ≡ map (line_of tree logs) (filter (has_line tree logs) cs)
  unfolding EachCase
  cases_lines [] own = refl
  cases_lines (c ∷ cs) own =
      ap (λ n. line_if (role_by e.kind e.parent) above c n
      ++ lines_by (role_by e.kind e.parent) above (notes_of (logs e.id)) cs) (note_is (logs e.id) c)
      ∙ by_test (line_in (role_by e.kind e.parent)
      (kinds_of c (since_promise c (logs e.id)))) (cases_lines cs own.1)
      ∙ ap (λ b. map (line_of tree logs) (if b then c
      ∷ filter (has_line tree logs) cs else filter (has_line tree logs) cs))
      (shown_is c own.0)
    where
      by_test : (b : Bool) → lines_by (role_by e.kind e.parent) above (notes_of (logs e.id)) cs
          ≡ map (line_of tree logs) (filter (has_line tree logs) cs)
          → (if b then line_by above c (note_of (logs e.id) c) ∷ [] else [])
          ++ lines_by (role_by e.kind e.parent) above (notes_of (logs e.id)) cs
          ≡ map (line_of tree logs) (if b then c
          ∷ filter (has_line tree logs) cs else filter (has_line tree logs) cs)
      by_test true rest = λ i. line_is_that c own.0 i ∷ rest i
      by_test false rest = rest

-- the cases that are noted are those of the records, in the same order
named_cases : (f : Case → CaseNote) (cs : List Case)
    → map (λ (x : Case × CaseNote). x.0) (map (λ c. (c, f c)) cs) ≡ cs
named_cases f [] = refl
named_cases f (c ∷ cs) = ap (λ ds. c ∷ ds) (named_cases f cs)

listed_is : (role : Role) (rs : List Record) → listed_in role (log_notes_of rs) ≡ listed_cases role rs
listed_is role rs = ap (λ cs. listed_by role cs (promised_by rs)) (named_cases (note_of rs) (cases_in rs))

-- The lines of all processes.

module _ (tree : List TreeProcess) (t : IsTree tree) (logs : KeptLogs) (ts : TreeTables)
    (notes : AreNotes tree logs ts)
    (said : TreeOutcomes) (truly : AllTrue tree logs said) where
  entry_is : (e : TreeProcess) → IsFound tree e → has_above said e.parent ≡ true
      → entry_lines ts said e ≡ lines_at tree logs e.id
  entry_is e found has =
      let listed = listed_if tree e.id e found in
      let above = above_is tree logs said e.parent truly has in
      ap (λ a. lines_in (role_by e.kind e.parent) (above_of said e.parent)
      (notes_or a)) (notes.tables e.id listed)
      ∙ ap (lines_by (role_by e.kind e.parent) (above_of said e.parent) (notes_of (logs e.id)))
      (listed_is (role_by e.kind e.parent) (logs e.id))
      ∙ cases_lines tree logs e found (above_of said e.parent)
      (λ c own. outcome_is tree t logs e found (above_of said e.parent) above c own)
      (listed_cases (role_by e.kind e.parent) (logs e.id))
      (each_if (is_case_at tree e.id) (listed_cases (role_by e.kind e.parent) (logs e.id))
      (notes.own e.id listed (role_by e.kind e.parent)))
      ∙ ap (λ r. map (line_of tree logs) (filter (has_line tree logs) (listed_cases r (logs e.id))))
      (sym (role_if tree e.id e found))

  entries_are : (es : List TreeProcess) → Each (IsFound tree) es
      → list_all (λ e. has_above said e.parent) es ≡ true
      → flat_map (entry_lines ts said) es ≡ flat_map (λ e. lines_at tree logs e.id) es
  unfolding Each
  entries_are [] found has = refl
  entries_are (e ∷ es) found has =
      ap (λ ls. ls ++ flat_map (entry_lines ts said) es)
      (entry_is e found.0 (first_of (has_above said e.parent)
      (list_all (λ x. has_above said x.parent) es) has))
      ∙ ap (λ ls. lines_at tree logs e.id ++ ls)
      (entries_are es found.1 (second_of (has_above said e.parent)
      (list_all (λ x. has_above said x.parent) es) has))

-- the lines that are made are the audit's
pub lines_are : (tree : List TreeProcess) → IsTree tree
    → (logs : KeptLogs) (ts : TreeTables) → AreNotes tree logs ts
    → (said : TreeOutcomes) → SaidFor tree ts tree said → all_lines ts said tree ≡ lines_of tree logs
unfolding all_lines lines_of
lines_are tree t logs ts notes said for =
    entries_are tree t logs ts notes said (for.truly logs notes) tree
    (each_found tree t) (for.said logs notes)

pub lines_end : (ts : TreeTables) (said : TreeOutcomes) (out total : List ReportLine)
    (rest : List TreeProcess) → rest ≡ []
    → out ++ all_lines ts said rest ≡ total → out ≡ total
unfolding all_lines
lines_end ts said out total rest is h =
    sym (append-nil out) ∙ sym (ap (λ es. out ++ all_lines ts said es) is) ∙ h

pub lines_go_on : (ts : TreeTables) (said : TreeOutcomes) (out new total : List ReportLine) (e : TreeProcess)
    (es rest : List TreeProcess) → new ≡ out ++ entry_lines ts said e → rest ≡ e ∷ es
    → out ++ all_lines ts said rest ≡ total → new ++ all_lines ts said es ≡ total
unfolding all_lines
lines_go_on ts said out new total e es rest n is h =
    ap (λ ls. ls ++ all_lines ts said es) n ∙ append_assoc out (entry_lines ts said e) (all_lines ts said es)
    ∙ sym (ap (λ xs. out ++ all_lines ts said xs) is) ∙ h
