-- Lists that are the same at each process of a tree have the same audit.
use Rattle.std.proofs.Common.{◌≡◌, ◌∙◌, ◌&&◌, ℕ, zero, suc, Bool, true, false, Option, Some, None, List, length, refl, sym, ap, subst}
use Rattle.protocol.specs.declared.names.Case.{Case}
use Rattle.protocol.specs.declared.names.Outcome.{Outcome}
use Rattle.protocol.specs.declared.names.ProcessId.{ProcessId}
use Rattle.protocol.specs.declared.names.Ticket.{Ticket}
use Rattle.protocol.specs.declared.records.Record.{Record}
use Rattle.protocol.specs.declared.trees.TreeProcess.{TreeProcess}
use Rattle.protocol.specs.Names.{process_of}
use Rattle.protocol.specs.Nodes.{is_listed, role_by, role_of}
use Rattle.protocol.specs.Records.{has, is_decided}
use Rattle.protocol.specs.Trees.{IsTree}
use Rattle.protocol.specs.Audits.{parent_in}
use Rattle.protocol.specs.Audits.{KeptLogs, asked_above, audited, decided_or, has_line, has_line_in, has_place, is_case_at, naming_case, outcome_within, own_decision, said_above, since_promise}
use Rattle.audit_cases.specs.Kinds.{own_of}
use Rattle.audit_tree.specs.Reports.{line_of, other, reports_for}
use Rattle.audit_tree.specs.declared.report.ReportLine.{ReportLine}
use Rattle.audit_tree.proofs.Outcomes.{case_at, child_has, naming_own, owner_is, place_of_case}
use Rattle.audit_tree.proofs.TreePlaces.{listed_entry, parent_listed, role_if}

module _ (tree : List TreeProcess) (t : IsTree tree) (logs kept : KeptLogs)
    (same : (q : ProcessId) → is_listed tree q ≡ true → logs q ≡ kept q) where
  -- the parent of a case's process is listed
  above_listed : (q : ProcessId) → is_listed tree q ≡ true → (u : Ticket)
      → has_place (role_of tree q) (Some u) ≡ true
      → is_listed tree (parent_in (role_of tree q) u.child) ≡ true
  above_listed q listed u place =
      let found = listed_entry tree q listed in
      let e = found.0 in
      let role = role_if tree q e found.1 in
      let up = child_has e.kind e.parent u u.child (ap (λ r. has_place r (Some u)) (sym role) ∙ place) in
      ap (λ r. is_listed tree (parent_in r u.child)) role
      ∙ parent_listed tree t q (parent_in (role_by e.kind e.parent) u.child) e found.1 up

  -- each case of a listed process has the same outcome within N steps
  abbrev SameWithin : ℕ → Type 0
  SameWithin k = (q : ProcessId) (c : Case) → is_listed tree q ≡ true → is_case_at tree q c ≡ true
      → outcome_within k tree logs c ≡ outcome_within k tree kept c

  outcome_same : (k : ℕ) → SameWithin k
  outcome_same zero q c listed own = refl
  outcome_same (suc k) q c listed own =
      ap (λ rs. decided_or (own_decision c rs)
      (asked_above (outcome_within k tree logs) tree logs c.txn c.ticket))
      (same (process_of c) (subst (λ p. is_listed tree p ≡ true) (sym (case_at tree logs q c own)) listed))
      ∙ ap (decided_or (own_decision c (kept (process_of c)))) (by_ticket (outcome_same k) c.ticket refl)
    where
      by_case : SameWithin k → (p : ProcessId) → is_listed tree p ≡ true → (u : Ticket) (f : Option Case)
          → naming_case tree p c.txn u (kept p) ≡ f
          → said_above (outcome_within k tree logs) c.txn.presumption f
          ≡ said_above (outcome_within k tree kept) c.txn.presumption f
      by_case says p there u None is = refl
      by_case says p there u (Some d) is = says p d there (naming_own tree kept p c.txn u d is)

      by_ticket : SameWithin k → (o : Option Ticket) → c.ticket ≡ o
          → asked_above (outcome_within k tree logs) tree logs c.txn o
          ≡ asked_above (outcome_within k tree kept) tree kept c.txn o
      by_ticket says None is = refl
      by_ticket says (Some u) is =
          let here : q ≡ u.child = sym (case_at tree logs q c own) ∙ owner_is c u is in
          let place : has_place (role_of tree q) (Some u) ≡ true =
          ap (has_place (role_of tree q)) (sym is) ∙ place_of_case tree logs q c own in
          let p = parent_in (role_of tree u.child) u.child in
          let there : is_listed tree p ≡ true =
          subst (λ r. is_listed tree (parent_in (role_of tree r) u.child) ≡ true) here
          (above_listed q listed u place) in
          ap (λ rs. said_above (outcome_within k tree logs) c.txn.presumption
          (naming_case tree p c.txn u rs)) (same p there)
          ∙ by_case says p there u (naming_case tree p c.txn u (kept p)) refl

  pub audited_same : (c : Case) → is_listed tree (process_of c) ≡ true
      → is_case_at tree (process_of c) c ≡ true
      → audited tree logs c ≡ audited tree kept c
  unfolding audited
  audited_same c listed own = outcome_same (length tree) (process_of c) c listed own

  pub shown_same : (c : Case) → has_line tree logs c ≡ has_line tree kept c
  shown_same c = by_test (is_listed tree (process_of c)) refl
    where
      by_test : (b : Bool) → is_listed tree (process_of c) ≡ b
          → (b && (is_case_at tree (process_of c) c
          && has_line_in (role_of tree (process_of c)) c (since_promise c (logs (process_of c)))))
          ≡ (b && (is_case_at tree (process_of c) c
          && has_line_in (role_of tree (process_of c)) c (since_promise c (kept (process_of c)))))
      by_test true listed = ap (λ rs. is_case_at tree (process_of c) c
          && has_line_in (role_of tree (process_of c)) c (since_promise c rs)) (same (process_of c) listed)
      by_test false listed = refl

  -- the line of a case by its process's list and its outcome
  line_by : Case → List Record → Outcome → ReportLine
  line_by c rs o = record {
    case = c;
    own = own_of c (since_promise c rs);
    decision = own_decision c rs;
    outcome = o;
    mismatch = has (is_decided c (other o)) (since_promise c rs);
    reports = reports_for c.ticket rs c;
  }

  pub line_same : (c : Case) → is_listed tree (process_of c) ≡ true → is_case_at tree (process_of c) c ≡ true
      → line_of tree logs c ≡ line_of tree kept c
  unfolding line_by
  line_same c listed own =
      ap (λ rs. line_by c rs (audited tree logs c)) (same (process_of c) listed)
      ∙ ap (line_by c (kept (process_of c))) (audited_same c listed own)
