-- What lasts at every coordinator: decisions that are acknowledged are forced, live cases are undecided, and
-- names stay.
use Rattle.std.proofs.Common.{◌≡◌, ◌∙◌, inl, inr, Bool, true, false, Option, Some, None, List, [], ◌∷◌, refl, sym, subst}
use Rattle.protocol.specs.declared.names.Case.{Case}
use Rattle.protocol.specs.declared.names.Outcome.{Outcome}
use Rattle.protocol_words.specs.Variants.{AbortedOutcome, CommittedOutcome}
use Rattle.protocol.specs.declared.names.ProcessId.{ProcessId}
use Rattle.protocol.specs.declared.names.Presumption.{Presumption}
use Rattle.protocol.specs.declared.names.Presumption.TheVariants.{PresumeAbort, PresumeCommit}
use Rattle.protocol.specs.declared.names.Ticket.{Ticket}
use Rattle.protocol.specs.declared.records.Record.{Record}
use Rattle.protocol.specs.declared.records.Record.TheVariants.{Opened}
use Rattle.protocol.specs.declared.standings.Standing.{Standing}
use Rattle.protocol.specs.declared.trees.TreeProcess.{TreeProcess}
use Rattle.protocol.specs.Names.{process_of}
use Rattle.protocol.specs.Records.{has, in_list, is_abort, is_collecting, is_commit, none_of, owing_by}
use Rattle.protocol.specs.Nodes.{IsCoordinator, Node, Place, Role, kept, opened_node, place_of, role_of}
use Rattle.protocol.specs.Outcomes.{has_accepted}
use Rattle.protocol.specs.Standings.{coordinator_view}
use Rattle.protocol.specs.Trees.{IsTree}
use Rattle.protocol.specs.World.{IsRun, Made, World, makes, opens}
use Rattle.protocol.proofs.RunLaws.{makes_at}
use Rattle.proof_pairs.specs.readings.ReadingOf.{acknowledged}
use Rattle.protocol.specs.Audits.{is_collecting_naming, is_decision_naming}
use Rattle.proof_pairs.specs.turns.CoordinatorTurns.{HasDecided, by_abort, by_commit}
use Rattle.proof_pairs.specs.turns.Steps.{StepOf}
use Rattle.proof_pairs.proofs.turns.Steps.{step_of}
use Rattle.proof_processes.specs.WorldHolds.{InvariantOf, NamesBy, WorldHolds, pair_reading}
use Rattle.proof_processes.proofs.CaseOrders.{AllFit}
use Rattle.proof_processes.proofs.CoordinatorLogs.{all_fit}
use Rattle.proof_processes.proofs.CoordinatorsHold.{all_coordinated, premises}
use Rattle.proof_processes.proofs.Remembering.{coordinator_place, role_below}
use Rattle.proof_processes.proofs.Tests.{has-cons, has-nil, in_either, left, neither, right}
use Rattle.proof_processes.proofs.Worlds.{has_other, put}
use Rattle.proof_steps.proofs.parents.Tables.{aborting_facts, committing_facts}
use Rattle.proof_headline.proofs.Pairs.{joined_pair}
use Rattle.proof_headline.proofs.Parts.{accepts, standing_world}
use Rattle.proof_headline.proofs.runs.Headline.{the_world_holds}
use Rattle.proof_reports.specs.SinceOpened.{is_decision}
use Rattle.proof_reports.proofs.Became.{became}
use Rattle.proof_reports.proofs.Forced.{OwedForced, is_decision_by, is_owed_decision, owed_forced}
use Rattle.proof_reports.proofs.Naming.{collecting_without, decision_owes, decision_stays_named, never, no_collecting_without, one_collecting}
use Rattle.proof_reports.proofs.Opened.{Unaborted, live_undecided, still_unaborted}
use Rattle.proof_reports.proofs.Stays.{NamesStay, names_stay}

pub record CoordinatorLasts (place : Place) (n : Node) : Type 0 where
  pub forced : OwedForced n
  pub unaborted : Unaborted place n
  pub stays : NamesStay n

-- A kept Collecting names all that its case accepted.

module _ (tree : List TreeProcess) (w : World) (h : WorldHolds tree w) (q : ProcessId)
    (fits : AllFit [] (kept (w.at q))) (c : Case) (t : Ticket)
  where
    named_by_pair : (p : Presumption) → InvariantOf p (pair_reading tree w c t) → process_of c ≡ q
        → has_accepted (w.at q) c t ≡ true → has (collecting_without c t) (kept (w.at q)) ≡ false
    named_by_pair PresumeAbort i same e =
        no_collecting_without c t (kept (w.at q))
        (subst (λ (r : ProcessId). has (is_collecting c) (kept (w.at r)) ≡ false) same i.never_collects)
    named_by_pair PresumeCommit i same e = by_test (has (is_collecting c) (kept (w.at q))) refl
      where
        back : (P : ProcessId → Type 0) → P q → P (process_of c)
        back P x = subst P (sym same) x

        by_test : (b : Bool) → has (is_collecting c) (kept (w.at q)) ≡ b
            → has (collecting_without c t) (kept (w.at q)) ≡ false
        by_test true f =
            one_collecting c t (kept (w.at q)) fits
            (subst (λ (r : ProcessId). has (is_collecting_naming c t) (kept (w.at r)) ≡ true) same
            (i.collects_all (back (λ r. has (is_collecting c) (kept (w.at r)) ≡ true) f)
            (back (λ r. has_accepted (w.at r) c t ≡ true) e)))
        by_test false f = no_collecting_without c t (kept (w.at q)) f

    pub names_all : has_accepted (w.at q) c t ≡ true → has (collecting_without c t) (kept (w.at q)) ≡ false
    names_all e =
        let a = accepts tree w (standing_world tree w h) q c t e in
        named_by_pair c.txn.presumption (joined_pair tree w h c t a.1).1 a.0 e

-- Runs.

one_lacks : (q : Record → Bool) (r : Record) → q r ≡ false → has q (r ∷ []) ≡ false
one_lacks q r e = has-cons q r [] ∙ neither (q r) (has q []) e (has-nil q)

below_is : (parent : Option ProcessId) → IsCoordinator (role_below parent)
below_is None = tt
below_is (Some p) = tt

opened_lasts : (q : ProcessId) (parent : Option ProcessId) (tree : List TreeProcess)
    → CoordinatorLasts (coordinator_place q parent tree) opened_node
opened_lasts q parent tree = record {
  forced = λ up c. has-nil (is_owed_decision c);
  unaborted = λ up c live. one_lacks (is_abort c) (Opened 1) refl;
  stays = λ c t e. absurd (never _ e (one_lacks (is_decision_naming c t) (Opened 1) refl));
}

module _ (tree : List TreeProcess) (is_tree : IsTree tree) where
  abbrev at : ProcessId → Role → Place
  at q r = record { me = q; role = r; tree = tree }

  pub all_last : (es : List Made) (w : World) → IsRun tree es w → (q : ProcessId) (parent : Option ProcessId)
      → role_of tree q ≡ role_below parent → CoordinatorLasts (coordinator_place q parent tree) (w.at q)
  all_last _ _ opens q = λ parent e. opened_lasts q parent tree
  all_last _ _ (makes es w m e w' run stands step) q =
      let now = makes_at tree w m e w' step in
      let x = m.step.process in
      let s = step_of (place_of tree x) (w.at x) m e now.node now.made in
      let P : ProcessId → Node → Type 0 = λ y k. (parent : Option ProcessId)
      → role_of tree y ≡ role_below parent
      → CoordinatorLasts (coordinator_place y parent tree) k in
      subst (λ (y : World). P q (y.at q)) (sym now.world)
      (put P x q now.node w.at
      (λ parent role. let old = all_last es w run x parent role in
      let there = all_coordinated tree es w run x parent role in
      let given = premises tree es w run x parent role there in
      let step_so = subst (λ (r : Role). StepOf (at x r) (w.at x) m e now.node) role s in
      let fits = all_fit tree es w run x (subst IsCoordinator (sym role) (below_is parent)) in
      record {
        forced = owed_forced x parent tree m (w.at x) e now.node step_so old.forced;
        unaborted = still_unaborted x parent tree (w.at x) given there old.unaborted m e now.node step_so;
        stays = names_stay x parent tree (w.at x) given.nested there fits
            (live_undecided x parent tree (w.at x) given there old.unaborted)
            (names_all tree w (the_world_holds tree is_tree es w run) x fits) old.stays now.node
            (became x parent tree m (w.at x) e now.node step_so);
      })
      (all_last es w run q))

-- What follows of a case that waits for acknowledgements.

module _ (place : Place) (n : Node) (c : Case) (names : NamesBy c.txn.presumption c (kept n))
    (forced : n.failed ≡ false → (d : Case) → has (is_owed_decision d) n.unforced ≡ false)
    (up : n.failed ≡ false)
  where
    in_front : (q : Record → Bool) → has q (kept n) ≡ true → has q n.unforced ≡ false → has q n.forced ≡ true
    in_front q e f = elim (in_either q n.forced n.unforced e) [
      | inl a ↦ a
      | inr b ↦ absurd (never _ b f)
    ]

    owed_is : (r : Record) → is_owed_decision c r ≡ true → is_decision c r ≡ true
    owed_is r e = by_outcome (acknowledged c.txn.presumption) e
      where
        by_outcome : (o : Outcome) → is_decision_by o c r ≡ true → is_decision c r ≡ true
        by_outcome CommittedOutcome f = left (is_commit c r) (is_abort c r) f
        by_outcome AbortedOutcome f = right (is_commit c r) (is_abort c r) f

    owed_is_forced : has (is_owed_decision c) (kept n) ≡ true → has (is_decision c) n.forced ≡ true
    owed_is_forced e =
        has_other (is_owed_decision c) (is_decision c) n.forced owed_is
        (in_front (is_owed_decision c) e (forced up c))

    commit_forced : (p : Presumption) → c.txn.presumption ≡ p → NamesBy p c (kept n)
        → has (is_commit c) (kept n) ≡ true → none_of (owing_by c (kept n)) ≡ false
        → has (is_decision c) n.forced ≡ true
    commit_forced PresumeAbort e by f some =
        owed_is_forced
        (subst (λ (x : Presumption). has (is_decision_by (acknowledged x) c) (kept n) ≡ true) (sym e) f)
    commit_forced PresumeCommit e by f some = absurd (never _ (by f) some)

    abort_forced : (p : Presumption) → c.txn.presumption ≡ p → NamesBy p c (kept n)
        → has (is_abort c) (kept n) ≡ true → none_of (owing_by c (kept n)) ≡ false
        → has (is_decision c) n.forced ≡ true
    abort_forced PresumeAbort e by f some = absurd (never _ (by.1 f) some)
    abort_forced PresumeCommit e by f some =
        owed_is_forced
        (subst (λ (x : Presumption). has (is_decision_by (acknowledged x) c) (kept n) ≡ true) (sym e) f)

    -- its decision is forced
    pub decided_forced : (o : Outcome) (s : Standing) → HasDecided o s
        → (coordinator_view place n c).standing ≡ s
        → has (is_decision c) n.forced ≡ true
    decided_forced _ _ by_commit e =
        let f = committing_facts place n c e in commit_forced c.txn.presumption refl names f.commit f.some
    decided_forced _ _ by_abort e =
        let f = aborting_facts place n c e in abort_forced c.txn.presumption refl names f.abort f.some

-- whom a decision of it ever named, a kept decision names
pub named_owed : (place : Place) (n : Node) (c : Case) → NamesStay n → (o : Outcome) (s : Standing)
    → HasDecided o s
    → (coordinator_view place n c).standing ≡ s → (u : Ticket) → has (is_decision_naming c u) n.life ≡ true
    → in_list (owing_by c (kept n)) u ≡ true
named_owed place n c stays _ _ by_commit e u f =
    decision_owes c u (kept n) (committing_facts place n c e).some
    (decision_stays_named c u (kept n) (stays c u f))
named_owed place n c stays _ _ by_abort e u f =
    decision_owes c u (kept n) (aborting_facts place n c e).some
    (decision_stays_named c u (kept n) (stays c u f))
