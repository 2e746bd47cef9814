-- The lines of a run's logs are true of the run.
use Rattle.std.proofs.Common.{◌≡◌, ◌≢◌, ◌∙◌, inl, inr, Bool, true, false, if◌then◌else◌, List, [], ◌∷◌, refl, sym, ap, subst, arith}
use Rattle.std.specs.List.{Contains}
use Rattle.protocol.specs.declared.names.Case.{Case}
use Rattle.protocol.specs.declared.names.Outcome.{Outcome}
use Rattle.protocol.specs.declared.names.Outcome.TheVariants.{Committed, Aborted}
use Rattle.protocol.specs.declared.records.Record.{Record}
use Rattle.protocol.specs.declared.trees.TreeProcess.{TreeProcess}
use Rattle.protocol.specs.Names.{process_of, same_case}
use Rattle.protocol.specs.Nodes.{Role, AtRoot, Below, AtLeaf, is_listed, role_of}
use Rattle.protocol.specs.Outcomes.{outcome_of}
use Rattle.protocol.specs.Records.{cases_in, has, has_case, is_decided, is_prepared}
use Rattle.protocol.specs.Trees.{IsTree}
use Rattle.protocol.specs.World.{Made, World}
use Rattle.proof_processes.specs.WorldHolds.{is_record_of}
use Rattle.proof_processes.proofs.RootLogs.{recorded_case}
use Rattle.proof_processes.proofs.Tests.{both, case_is, either, has-cons, right}
use Rattle.proof_processes.proofs.Worlds.{has_other}
use Rattle.protocol.specs.Audits.{AuditsAreTrue, KeptLogs, ShowsMismatch, audited, has_line, has_line_in, is_case_at, logs_of_world, since_promise}
use Rattle.proof_headline.proofs.auditor.Audit.{audits_are_true}
use Rattle.proof_headline.proofs.runs.Headline.{the_world_holds}
use Rattle.audit_cases.specs.Notes.{listed_cases, promised_by}
use Rattle.audit_cases.proofs.OrderLaws.{has_last, promised_has}
use Rattle.log_script.specs.declared.line.ProcessLog.{ProcessLog}
use Rattle.audit_tree.specs.declared.report.ReportLine.{ReportLine}
use Rattle.audit_tree.specs.Reports.{kept_lists, line_of, lines_at, lines_of, other}
use Rattle.audit_tree.specs.Truths.{AreKeptBehind, AreTrue, AreTrueOfRuns, StandsAgainst}
use Rattle.audit_tree.proofs.Elements.{element_found, element_here, element_kept, element_later, element_made, element_part, kept_element, made_element, part_element}
use Rattle.audit_tree.proofs.SameLogs.{line_same, shown_same}
use Rattle.audit_tree.proofs.TreePlaces.{listed_entry, named_so}

-- Outcomes.

is_other : (o a : Outcome) → o ≢ a → o ≡ other a
is_other Committed Committed differs = absurd (differs refl)
is_other Committed Aborted differs = refl
is_other Aborted Committed differs = refl
is_other Aborted Aborted differs = absurd (differs refl)

other_differs : (a : Outcome) → other a ≢ a
other_differs Committed = λ e. cc
other_differs Aborted = λ e. cc

-- Cases of a list.

listed_case : (cs : List Case) (c : Case) → has_case cs c ≡ true → Contains cs c
unfolding has_case
listed_case [] c h = absurd (cc)
listed_case (d ∷ cs) c h = elim (either (same_case d c) (has_case cs c) h) [
  | inl here ↦ subst (λ x. Contains (d ∷ cs) x) (case_is d c here) (element_here d cs)
  | inr rest ↦ element_later c d cs (listed_case cs c rest)
]

decided_of : (c : Case) (o : Outcome) (r : Record) → is_decided c o r ≡ true → is_record_of c r ≡ true
decided_of c Committed r e = grind arith
decided_of c Aborted r e = grind arith

-- what stands since the last promise stands
since_stands : (c : Case) (q : Record → Bool) (rs : List Record)
    → has q (since_promise c rs) ≡ true → has q rs ≡ true
since_stands c q [] h = h
since_stands c q (r ∷ rs) h = by_test (has (is_prepared c) rs) h (since_stands c q rs)
  where
    by_test : (b : Bool) → has q (if b then since_promise c rs else r ∷ rs) ≡ true
        → (has q (since_promise c rs) ≡ true → has q rs ≡ true) → has q (r ∷ rs) ≡ true
    by_test true since stand = has-cons q r rs ∙ right (q r) (has q rs) (stand since)
    by_test false all stand = all

-- a case that has a line is among those that an audit lists
listed_has : (role : Role) (c : Case) (rs : List Record) → has_line_in role c (since_promise c rs) ≡ true
    → has_case (cases_in rs) c ≡ true → has_case (listed_cases role rs) c ≡ true
listed_has AtRoot c rs shown recorded = recorded
listed_has (Below p) c rs shown recorded = recorded
listed_has (AtLeaf p) c rs shown recorded =
    has_last (promised_by rs) c ∙ promised_has c rs
    ∙ since_stands c (is_prepared c) rs (both (has (is_prepared c) (since_promise c rs)) _ shown).0

-- Lines.

-- a line of a case that has one
record LineOf (tree : List TreeProcess) (logs : KeptLogs) (l : ReportLine) : Type 0 where
  of : Case
  has : has_line tree logs of ≡ true
  is : line_of tree logs of ≡ l

module _ (tree : List TreeProcess) (logs : KeptLogs) where
  of_case : (l : ReportLine) → Contains (lines_of tree logs) l → LineOf tree logs l
  unfolding lines_of
  of_case l at =
      let part = element_part (λ (e : TreeProcess). lines_at tree logs e.id) l tree at in
      let made = element_made (line_of tree logs) l _ part.within in
      let kept = element_kept (has_line tree logs) made.from
      (listed_cases (role_of tree part.of.id) (logs part.of.id))
      made.listed in
      record { of = made.from; has = kept.passes; is = made.is }

  case_of : (c : Case) → has_line tree logs c ≡ true → has_case (cases_in (logs (process_of c))) c ≡ true
      → Contains (lines_of tree logs) (line_of tree logs c)
  unfolding lines_of
  case_of c has recorded =
      let parts = both (is_listed tree (process_of c)) _ has in
      let listed = parts.0 in
      let shown = (both (is_case_at tree (process_of c) c) _ parts.1).1 in
      let found = listed_entry tree (process_of c) listed in
      let here = named_so tree (process_of c) found.0 found.1 in
      part_element (λ (e : TreeProcess). lines_at tree logs e.id) found.0 (line_of tree logs c) tree
      (element_found _ found.0 tree found.1)
      (subst (λ q. Contains (lines_at tree logs q) (line_of tree logs c)) (sym here)
      (made_element (line_of tree logs) c _
      (kept_element (has_line tree logs) c (listed_cases (role_of tree (process_of c)) (logs (process_of c)))
      (listed_case (listed_cases (role_of tree (process_of c)) (logs (process_of c))) c
      (listed_has (role_of tree (process_of c)) c (logs (process_of c)) shown recorded)) has)))

  shows_some : (c : Case) → has_line tree logs c ≡ true → (line_of tree logs c).mismatch ≡ true
      → ShowsMismatch tree logs c (other (audited tree logs c))
  shows_some c has shows = record {
    line = has;
    decided = shows;
    differs = other_differs (audited tree logs c);
  }

  shown : (c : Case) (o : Outcome) → ShowsMismatch tree logs c o → (line_of tree logs c).mismatch ≡ true
  shown c o s =
      let is : o ≡ other (audited tree logs c) = is_other o (audited tree logs c) s.differs in
      ap (λ x. has (is_decided c x) (since_promise c (logs (process_of c)))) (sym is) ∙ s.decided

-- Runs.

module _ (tree : List TreeProcess) (t : IsTree tree) (es : List Made) (w : World) (logs : KeptLogs)
    (behind : AreKeptBehind tree es w logs) where
  truths : AuditsAreTrue tree w
  truths = audits_are_true tree es w t behind.is_run (the_world_holds tree t es w behind.is_run) behind.all_up

  -- the line of a case is that of the world's lists
  world_line : (c : Case) → has_line tree logs c ≡ true
      → line_of tree logs c ≡ line_of tree (logs_of_world w) c
  world_line c has =
      let f = both (is_listed tree (process_of c)) _ has in
      line_same tree t logs (logs_of_world w) behind.kept_there c f.0
      (both (is_case_at tree (process_of c) c) _ f.1).0

  world_has : (c : Case) → has_line tree logs c ≡ has_line tree (logs_of_world w) c
  world_has c = shown_same tree t logs (logs_of_world w) behind.kept_there c

  pub lines_true : AreTrue w (lines_of tree logs)
  lines_true = record {
    outcomes = λ l at.
        let f = of_case tree logs l at in
        ap (λ (x : ReportLine). x.outcome) (sym f.is ∙ world_line f.of f.has)
        ∙ truths.outcomes f.of (sym (world_has f.of) ∙ f.has)
        ∙ ap (λ (x : ReportLine). outcome_of w x.case.txn) f.is;
    mismatches_stand = λ l at shows.
        let f = of_case tree logs l at in
        let there = sym (world_has f.of) ∙ f.has in
        let also = ap (λ (x : ReportLine). x.mismatch) (sym (world_line f.of f.has) ∙ f.is) ∙ shows in
        let m = truths.mismatches_stand f.of _ (shows_some tree (logs_of_world w) f.of there also) in
        subst (λ (x : ReportLine). (o : Outcome) × StandsAgainst w x.case o) f.is
        (other (audited tree (logs_of_world w) f.of), record { mismatch = m.0; stands = m.1 });
    standing_mismatches_show = λ c o stands.
        let s = truths.standing_mismatches_show c o stands.mismatch stands.stands in
        let has = world_has c ∙ s.line in
        let listed = (both (is_listed tree (process_of c)) _ has).0 in
        let decided = since_stands c (is_decided c o) (logs_of_world w (process_of c)) s.decided in
        let recorded = recorded_case c (logs_of_world w (process_of c)) (has_other (is_decided c o)
        (is_record_of c) (logs_of_world w (process_of c)) (decided_of c o) decided) in
        record {
          line = line_of tree logs c;
          listed = case_of tree logs c has (ap (λ rs. has_case (cases_in rs) c)
              (behind.kept_there (process_of c) listed) ∙ recorded);
          case = refl;
          shows = ap (λ (x : ReportLine). x.mismatch) (world_line c has) ∙ shown tree (logs_of_world w) c o s;
        };
  }

-- the lines of logs are true of every run that left them
pub true_of_runs : (tree : List TreeProcess) → IsTree tree → (logs : List ProcessLog)
    → AreTrueOfRuns tree logs (lines_of tree (kept_lists tree logs))
true_of_runs tree t logs = λ es w behind. lines_true tree t es w (kept_lists tree logs) behind
