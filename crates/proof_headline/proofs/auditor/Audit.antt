-- The audit of a run's kept lists is true.
use Rattle.std.proofs.Common.{◌≡◌, ◌∙◌, ℕ, Bool, true, false, not, Option, Some, None, List, length, refl, sym, ap, subst, arith}
use Rattle.protocol.specs.declared.names.Case.{Case}
use Rattle.protocol.specs.declared.names.Ticket.{Ticket}
use Rattle.protocol.specs.declared.records.Record.{Record}
use Rattle.protocol.specs.declared.trees.TreeProcess.{TreeProcess}
use Rattle.protocol.specs.Names.{child_case, process_of, root_case}
use Rattle.protocol.specs.Records.{has, is_forgot, is_prepare, is_prepared}
use Rattle.protocol.specs.Nodes.{Role, AtRoot, Below, AtLeaf, Node, is_listed, kept, role_of}
use Rattle.protocol.specs.Outcomes.{outcome_of}
use Rattle.protocol.specs.Trees.{IsTree}
use Rattle.protocol.specs.World.{IsRun, Made, World}
use Rattle.protocol.specs.Audits.{is_promise}
use Rattle.proof_processes.specs.Lasts.{Lasts, logs_of}
use Rattle.proof_processes.specs.Marks.{is_branch_record}
use Rattle.proof_processes.specs.Numbers.{IsIssuer}
use Rattle.proof_processes.specs.WorldHolds.{WorldHolds}
use Rattle.proof_processes.proofs.ChildOf.{no_branch}
use Rattle.proof_processes.proofs.Levels.{climbs, has_entry}
use Rattle.proof_processes.proofs.Tests.{both}
use Rattle.proof_processes.proofs.Worlds.{has_other}
use Rattle.proof_headline.proofs.Parts.{case_parts}
use Rattle.protocol.specs.Audits.{AllUp, AuditsAreTrue, audited, has_line, has_line_in, has_place, is_case_at, logs_of_world, outcome_within}
use Rattle.proof_headline.proofs.auditor.Climb.{climb_says}
use Rattle.proof_headline.proofs.auditor.Verdicts.{none_so}
use Rattle.proof_headline.proofs.auditor.Mismatches.{shown_stands, standing_shows}
use Rattle.proof_headline.proofs.auditor.Sinces.{line_same}
use Rattle.proof_headline.proofs.auditor.RootLines.{root_says}

-- Lines of cases with tickets.

prepare_promises : (d : Case) (r : Record) → is_prepare d r ≡ true → is_promise d r ≡ true
prepare_promises d r e = grind arith

prepared_promises : (d : Case) (r : Record) → is_prepared d r ≡ true → is_promise d r ≡ true
prepared_promises d r e = grind arith

forgot_of_branch : (d : Case) (r : Record) → is_forgot d r ≡ true → is_branch_record d r ≡ true
forgot_of_branch d r e = grind arith

not_so : (b : Bool) → not b ≡ true → b ≡ false
not_so true e = absurd (cc)
not_so false e = refl

-- a line of a case with a ticket is of a promise that was not forgotten
record Promised (rs : List Record) (d : Case) : Type 0 where
  promised : has (is_promise d) rs ≡ true
  standing : has (is_forgot d) rs ≡ false

line_promised : (role : Role) (n : Node) (d : Case) → IsIssuer role → Lasts role (logs_of n)
    → has_line_in role d (kept n) ≡ true → Promised (kept n) d
line_promised (Below p) n d i l e = record {
  promised = has_other (is_prepare d) (is_promise d) (kept n) (prepare_promises d) e;
  standing = none_so (is_forgot d) (is_branch_record d) (kept n) (forgot_of_branch d)
      (no_branch d n l.nested l.by_role).kept_none;
}
line_promised (AtLeaf p) n d i l e = record {
  promised = has_other (is_prepared d) (is_promise d) (kept n) (prepared_promises d) (both _ _ e).0;
  standing = not_so (has (is_forgot d) (kept n)) (both _ _ e).1;
}
line_promised AtRoot n d i l e = absurd (i)

issuer_by_ticket : (role : Role) (t : Ticket) → has_place role (Some t) ≡ true → IsIssuer role
issuer_by_ticket (Below p) t e = tt
issuer_by_ticket (AtLeaf p) t e = tt
issuer_by_ticket AtRoot t e = absurd (cc)

root_by_ticket : (role : Role) → has_place role None ≡ true → role ≡ AtRoot
root_by_ticket AtRoot e = refl
root_by_ticket (Below p) e = absurd (cc)
root_by_ticket (AtLeaf p) e = absurd (cc)

module _ (tree : List TreeProcess) (es : List Made) (w : World) (is_tree : IsTree tree)
    (run : IsRun tree es w)
    (h : WorldHolds tree w) (up : AllUp tree w)
  where
    -- what a line says of where its case stands
    record Line (c : Case) : Type 0 where
      listed : is_listed tree (process_of c) ≡ true
      fits : has_place (role_of tree (process_of c)) c.ticket ≡ true
      shows : has_line_in (role_of tree (process_of c)) c (kept (w.at (process_of c))) ≡ true

    line_of : (c : Case) → has_line tree (logs_of_world w) c ≡ true → Line c
    line_of c e =
        let f = both _ _ e in
        let g = both (is_case_at tree (process_of c) c) _ f.1 in
        let same = line_same (role_of tree (process_of c)) (w.at (process_of c)) c
        (h.nodes (process_of c) f.0).lasts (role_of tree (process_of c)) in
        record { listed = f.0; fits = (both _ _ (both _ _ g.0).0).1; shows = sym same ∙ g.1 }

    abbrev Tells : Case → Type 0
    Tells c = audited tree (logs_of_world w) c ≡ outcome_of w c.txn

    ticket_line : (c : Case) (t : Ticket) → c.ticket ≡ Some t → Line c → Tells c
    unfolding audited
    ticket_line c t f l =
        subst (λ (d : Case). Line d → outcome_within (length tree) tree (logs_of_world w) d
        ≡ outcome_of w d.txn)
        (sym (case_parts c c.txn (Some t) refl f)) (λ k.
        let i = issuer_by_ticket (role_of tree t.child) t k.fits in
        let p = line_promised (role_of tree t.child) (w.at t.child) (child_case c.txn t) i
        (h.nodes t.child k.listed).lasts
        k.shows in
        climb_says tree w h up (length tree) c.txn t k.listed i p.promised p.standing
        (climbs tree is_tree t.child k.listed)) l

    root_line : (c : Case) → c.ticket ≡ None → Line c → Tells c
    unfolding audited
    root_line c f l =
        subst (λ (d : Case). Line d → outcome_within (length tree) tree (logs_of_world w) d
        ≡ outcome_of w d.txn)
        (sym (case_parts c c.txn None refl f)) (λ k.
        let x = c.txn in
        let role = root_by_ticket (role_of tree x.root) k.fits in
        let size = has_entry tree x.root k.listed in
        ap (λ (j : ℕ). outcome_within j tree (logs_of_world w) (root_case x)) size.1
        ∙ root_says tree es w run x role (up x.root k.listed)
        (subst (λ (r : Role). has_line_in r (root_case x) (kept (w.at x.root)) ≡ true) role k.shows)) l

    pub line_tells : (c : Case) → has_line tree (logs_of_world w) c ≡ true
        → audited tree (logs_of_world w) c
        ≡ outcome_of w c.txn
    line_tells c e = by_ticket c.ticket refl
      where
        by_ticket : (o : Option Ticket) → c.ticket ≡ o → audited tree (logs_of_world w) c
            ≡ outcome_of w c.txn
        by_ticket None f = root_line c f (line_of c e)
        by_ticket (Some t) f = ticket_line c t f (line_of c e)

pub audits_are_true : (tree : List TreeProcess) (es : List Made) (w : World) → IsTree tree → IsRun tree es w
    → WorldHolds tree w → AllUp tree w → AuditsAreTrue tree w
audits_are_true tree es w is_tree run h up = record {
  outcomes = tells;
  mismatches_stand = λ c o s.
      let f = shown_stands tree w h up c o s.line s.decided in
      (record { decided = f.0; differs = λ e. s.differs (e ∙ sym (tells c s.line)) }, f.1);
  standing_mismatches_show = λ c o m s.
      let f = standing_shows tree w h up c o s in
      record { line = f.0; decided = f.1; differs = λ e. m.differs (e ∙ tells c f.0) };
}
  where
    tells : (c : Case) → has_line tree (logs_of_world w) c ≡ true → audited tree (logs_of_world w) c
        ≡ outcome_of w c.txn
    tells = line_tells tree es w is_tree run h up
