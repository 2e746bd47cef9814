-- In every run each End that the root appends since its tree was opened last, by the second version, reports
-- truly.
use Rattle.std.proofs.Common.{◌≡◌, ◌∙◌, ◌&&◌, ◌||◌, ◌⊎◌, inl, inr, ℕ, Bool, true, false, Option, Some, None, List, [], ◌∷◌, ◌++◌, take, refl, sym, ap, subst, arith}
use Rattle.std.specs.Prelude.{reverse, slice_get}
use Rattle.protocol.specs.declared.names.Case.{Case}
use Rattle.protocol.specs.declared.names.Outcome.{Outcome}
use Rattle.protocol_words.specs.Variants.{AbortedOutcome, ClearedRecord, CollectingRecord, CommittedOutcome, EndRecord, Handles, PrepareRecord}
use Rattle.protocol.specs.declared.names.ProcessId.{ProcessId}
use Rattle.protocol.specs.declared.names.Ticket.{Ticket}
use Rattle.protocol.specs.declared.names.Txn.{Txn}
use Rattle.protocol.specs.declared.messages.Finding.{Finding}
use Rattle.protocol.specs.declared.records.Record.{Record}
use Rattle.protocol.specs.declared.records.Reports.{Reports}
use Rattle.protocol.specs.declared.messages.Envelope.{Envelope}
use Rattle.protocol.specs.declared.messages.Message.{Message}
use Rattle.protocol.specs.declared.events.Input.{Input}
use Rattle.protocol.specs.declared.events.Happening.{Happening}
use Rattle.protocol.specs.declared.standings.Standing.{Standing}
use Rattle.protocol.specs.declared.standings.Standing.TheVariants.{Collecting}
use Rattle.protocol.specs.declared.trees.TreeProcess.{TreeProcess}
use Rattle.protocol.specs.Names.{child_case, process_of, root_case}
use Rattle.protocol.specs.NameLaws.{same_case-refl, same_process_tells}
use Rattle.protocol.specs.Records.{has, in_list, is_abort, is_end, mixed_of, unreported_of}
use Rattle.protocol.specs.Nodes.{AtRoot, Effect, First, Heard, Node, Place, Role, Second, Version, Written, entries_written, place_of, role_of}
use Rattle.protocol.specs.CoordinatorRows.{end_reports}
use Rattle.protocol.specs.Outcomes.{Mismatch, outcome_of, root_ends}
use Rattle.protocol.specs.Restarts.{forced_all, left_of, reopens}
use Rattle.protocol.specs.Standings.{coordinator_view, found_below}
use Rattle.protocol.specs.Trees.{IsTree}
use Rattle.protocol.specs.World.{IsNewInNet, IsRun, IsRunBy, Made, Move, MayHappen, World, first_opens, makes, next, put_at, reopens as opens_again, world_makes}
use Rattle.protocol.proofs.RunLaws.{makes_at, runs_by_are_runs}
use Rattle.protocol.specs.Audits.{is_decision_naming}
use Rattle.proof_pairs.specs.turns.CoordinatorTurns.{CoordinatorTurn, HasDecided, by_abort, by_commit}
use Rattle.proof_pairs.specs.turns.Steps.{StepOf, heard_in, handled, failed_in, passed, failed_passing, reopened, failed_reopening, trims_log, failed_trimming}
use Rattle.proof_pairs.proofs.turns.CoordinatorReactions.{coordinator_turn_of}
use Rattle.proof_pairs.proofs.turns.Operators.{reopens_none}
use Rattle.proof_pairs.proofs.turns.Steps.{step_of, turn_of}
use Rattle.proof_processes.specs.WorldHolds.{NodeHolds, is_record_of}
use Rattle.proof_processes.proofs.CoordinatorsHold.{all_coordinated, premises}
use Rattle.proof_processes.proofs.Remembering.{coordinator_place}
use Rattle.proof_processes.proofs.RootsHold.{nodes_hold}
use Rattle.proof_processes.proofs.Tests.{has-cons, has-nil, has-reverse, in_either, in_first, in_front, neither}
use Rattle.proof_steps.proofs.parents.Tables.{aborting_facts, committing_facts}
use Rattle.proof_headline.proofs.runs.Headline
use Rattle.proof_reports.specs.SinceOpened.{InputAmong, IsAmong, SinceOpened, is_decision}
use Rattle.proof_reports.specs.Findings.{reports_mixed}
use Rattle.proof_reports.specs.Mismatches.{AllReportTruly, IsNamedDown, Names, ReportsTruly, by_root, by_ticket, mixed_in}
use Rattle.proof_reports.proofs.Became.{life_after}
use Rattle.proof_reports.proofs.Commits.{commit_is_old}
use Rattle.proof_reports.proofs.Descent.{Reported, is_reported}
use Rattle.proof_reports.proofs.EndRows.{EndsBy, acked_last, entries_forced, entries_taken, has_at, one_at, read_only, taken_at, turn_ends}
use Rattle.proof_reports.proofs.Found.{acked_still}
use Rattle.proof_reports.proofs.Lasting.{CoordinatorLasts, all_last, named_owed}
use Rattle.proof_reports.proofs.Naming.{never, no_decision_naming}
use Rattle.proof_reports.proofs.Opened.{live_undecided}
use Rattle.proof_reports.proofs.Owed.{all_acked}
use Rattle.proof_reports.proofs.Reported.{reported_had_mismatch, reports_hold}
use Rattle.proof_reports.proofs.Reports.{ended_still, has_ended}
use Rattle.proof_reports.proofs.Rows.{OneCase, Writes, cleared, collected, decided, decision, ended, nothing, promised, turn_writes}
use Rattle.proof_reports.proofs.SinceOpened.{since_step}
use Rattle.proof_reports.proofs.SinceRuns.{among_net, delivered_among, since_opened, stands_new}

one_lacks : (q : Record → Bool) (r : Record) → q r ≡ false → has q (r ∷ []) ≡ false
one_lacks q r e = has-cons q r [] ∙ neither (q r) (has q []) e (has-nil q)

end_no_decision : (o : Outcome) (d : Case) (ts : List Ticket) (c : Case) (r : Option Reports)
    → decision o d ts ≡ EndRecord c r → ⊥
end_no_decision CommittedOutcome d ts c r e = cc
end_no_decision AbortedOutcome d ts c r e = cc

-- An input that appends an End appends no decision.

module _ (place : Place) (n : Node) (c : Case) (r : Option Reports) (j : ℕ) (u : Ticket) where
  writes_unnamed : (d : Case) (ws : List Written) → Writes place n d ws
      → slice_get (entries_written ws) j ≡ Some (EndRecord c r)
      → has (is_decision_naming c u) (entries_written ws) ≡ false
  writes_unnamed d _ nothing e = has-nil (is_decision_naming c u)
  writes_unnamed d _ (ended s b) e = one_lacks (is_decision_naming c u) (EndRecord d s) refl
  writes_unnamed d _ (cleared b) e = one_lacks (is_decision_naming c u) (ClearedRecord d) refl
  writes_unnamed d _ (collected b at) e = one_lacks (is_decision_naming c u) (CollectingRecord d _) refl
  writes_unnamed d _ (promised ys b at) e = one_lacks (is_decision_naming c u) (PrepareRecord d ys) refl
  writes_unnamed d _ (decided o ts b from f) e =
      absurd (end_no_decision o d ts c r (one_at (decision o d ts) j (EndRecord c r) e))

  either_unnamed : (g : Effect) → (g.written ≡ []) ⊎ OneCase place n g.written
      → slice_get (entries_written g.written) j ≡ Some (EndRecord c r)
      → has (is_decision_naming c u) (entries_written g.written) ≡ false
  either_unnamed g (inl none) e =
      ap (λ ws. has (is_decision_naming c u) (entries_written ws)) none ∙ has-nil (is_decision_naming c u)
  either_unnamed g (inr one) e = writes_unnamed one.of g.written one.writes e

-- what was found, an End by the second version reports
reported_so : (v : Version) → v ≡ Second → (gs : List Finding) (r : Option Reports)
    → end_reports v None gs ≡ r
    → Reported gs r
unfolding in_list mixed_of unreported_of
reported_so First e gs r f = absurd (cc)
reported_so Second e [] r f = record { mixed = λ t g. absurd (cc); unreported = λ t g. absurd (cc) }
reported_so Second e (a ∷ gs) r f =
    subst (λ (s : Option Reports). Reported (a ∷ gs) s) f
    (record { mixed = λ t g. g; unreported = λ t g. g })

first_of_three : (a b c : Bool) → a ≡ true → (a || b || c) ≡ true
first_of_three a b c e = grind arith

ends_so : (n : Node) (x : Txn) (o : Outcome) → has_ended n (root_case x) o ≡ true → root_ends n x o ≡ true
ends_so n x CommittedOutcome e = e
ends_so n x AbortedOutcome e = first_of_three _ _ _ e

put_here : (q : ProcessId) (k : Node) (f : ProcessId → Node) → put_at q k f q ≡ k
put_here q k f = elim (same_process_tells q q) [ inl t ↦ rw t.0 refl | inr g ↦ absurd (g.1 refl) ]

module _ (tree : List TreeProcess) (is_tree : IsTree tree) (es : List Made) (w : World)
    (plain : IsRun tree es w)
    (since : List Envelope) (among : (x : Message) → IsAmong x since → IsAmong x w.net)
    (holds : SinceOpened tree since w) (m : Move) (e : Effect) (w' : World) (second : m.version ≡ Second)
    (arrives : (i : Input) → m.step.happening ≡ Handles i → InputAmong since i)
    (stands : MayHappen w.net m.step.process m.step.happening) (made : world_makes tree w m ≡ Some (e, w'))
    (top : role_of tree m.step.process ≡ AtRoot) (c : Case) (r : Option Reports) (j : ℕ)
    (there : slice_get (entries_written e.written) j ≡ Some (EndRecord c r))
  where
    abbrev q : ProcessId
    q = m.step.process

    abbrev n : Node
    n = w.at m.step.process

    abbrev k : Node
    k = (makes_at tree w m e w' made).node

    abbrev here : Place
    here = coordinator_place m.step.process None tree

    thereafter : IsRun tree (record { move = m; effect = e } ∷ es) w'
    thereafter = makes es w m e w' plain stands made

    step : StepOf (coordinator_place m.step.process None tree) (w.at m.step.process) m e
        (makes_at tree w m e w' made).node
    step =
        subst (λ (y : Role). StepOf (record { me = q; role = y; tree = tree }) n m e k) top
        (step_of (place_of tree q) n m e k (makes_at tree w m e w' made).made)

    node_at : NodeHolds (coordinator_place m.step.process None tree) w.net (w.at m.step.process)
    node_at = subst (λ (y : Role). NodeHolds (record { me = q; role = y; tree = tree }) w.net n) top
        (nodes_hold tree es w plain q)

    lasting : CoordinatorLasts (coordinator_place m.step.process None tree) (w.at m.step.process)
    lasting = all_last tree is_tree es w plain q None top

    -- the input that appends the End, and what it leaves of the life list
    record TurnEnd (k' : Node) : Type 0 where
      heard : Heard
      up : (w.at m.step.process).failed ≡ false
      by_second : heard.version ≡ Second
      now : InputAmong since heard.input
      ends_by : EndsBy (coordinator_place m.step.process None tree) (w.at m.step.process) heard c r
      appended : (p : Record → Bool) → p (EndRecord c r) ≡ true → has p k'.life ≡ true
      named : (u : Ticket) → has (is_decision_naming c u) k'.life ≡ true
          → has (is_decision_naming c u) (w.at m.step.process).life ≡ true

    of_turn : (k' : Node) (i : Input) (g : Effect) → m.step.happening ≡ Handles i
        → (w.at m.step.process).failed ≡ false
        → CoordinatorTurn (coordinator_place m.step.process None tree) None (w.at m.step.process)
        (heard_in m i) g
        → slice_get (entries_written g.written) j ≡ Some (EndRecord c r) → (xs : List Record)
        → ((p : Record → Bool) → has p xs ≡ true → has p (entries_written g.written) ≡ true)
        → ((p : Record → Bool) → p (EndRecord c r) ≡ true → has p xs ≡ true)
        → k'.life ≡ reverse xs ++ (w.at m.step.process).life → TurnEnd k'
    of_turn k' i g hp up turn at xs front has_it life = record {
      heard = heard_in m i;
      up = up;
      by_second = second;
      now = arrives i hp;
      ends_by = turn_ends here n (heard_in m i) c r j g turn at;
      appended = λ p f. ap (has p) life ∙ in_first p (reverse xs) n.life (has-reverse p xs ∙ has_it p f);
      named = λ u f. elim (in_either (is_decision_naming c u) (reverse xs) n.life
          (ap (has (is_decision_naming c u)) (sym life) ∙ f)) [
            | inl a ↦ absurd (never _
                (front (is_decision_naming c u) (sym (has-reverse (is_decision_naming c u) xs) ∙ a))
                (either_unnamed here n c r j u g (turn_writes here None n (heard_in m i) g turn) at))
            | inr b ↦ b
          ];
    }

    never_restarts : {A : Type 0} (i : ℕ)
        → slice_get (entries_written (forced_all (reopens AtRoot (left_of (w.at m.step.process) i)))) j
        ≡ Some (EndRecord c r) → A
    never_restarts i f =
        absurd (never _
        (has_at (is_end c) (reopens AtRoot (left_of n i)) j (EndRecord c r)
        (ap (λ rs. slice_get rs j) (sym (entries_forced (reopens AtRoot (left_of n i)))) ∙ f)
        (same_case-refl c))
        (reopens_none (is_end c) (λ d ts. refl) (λ b. refl) AtRoot (left_of n i)))

    turn_end : (e' : Effect) (k' : Node)
        → StepOf (coordinator_place m.step.process None tree) (w.at m.step.process) m e' k'
        → slice_get (entries_written e'.written) j ≡ Some (EndRecord c r) → TurnEnd k'
    turn_end _ k' (handled i g hp np s) f =
        of_turn k' i g hp (turn_of here n (heard_in m i) g s).up
        (coordinator_turn_of here n (heard_in m i) g s) f
        (entries_written g.written) (λ p x. x) (λ p x. has_at p (entries_written g.written) j
        (EndRecord c r) f x)
        (life_after n g.written)
    turn_end _ k' (failed_in i a g fl hp np s) f =
        of_turn k' i g hp (turn_of here n (heard_in m i) g s).up
        (coordinator_turn_of here n (heard_in m i) g s)
        (taken_at a.appended g.written j (EndRecord c r) f) (take a.appended (entries_written g.written))
        (λ p x. in_front p a.appended (entries_written g.written) x)
        (λ p x. ap (has p) (sym (entries_taken a.appended g.written))
        ∙ has_at p (entries_written (take a.appended g.written)) j (EndRecord c r) f x) refl
    turn_end _ _ (passed i hp s) f = absurd (cc)
    turn_end _ _ (failed_passing i a fl hp s) f = absurd (cc)
    turn_end _ _ (reopened i hp) f = never_restarts i f
    turn_end _ _ (failed_reopening i a fl hp) f =
        never_restarts i (taken_at a.appended (forced_all (reopens AtRoot (left_of n i))) j (EndRecord c r) f)
    turn_end _ _ (trims_log hp ok) f = absurd (cc)
    turn_end _ _ (failed_trimming a fl hp ok) f = absurd (cc)

    end : TurnEnd (makes_at tree w m e w' made).node
    end = turn_end e k step there

    -- The End is of the root's own case.

    node_so : w'.at m.step.process ≡ (makes_at tree w m e w' made).node
    node_so = ap (λ (y : World). y.at q) (makes_at tree w m e w' made).world ∙ put_here q k w.at

    own_case : (c.ticket ≡ None) × (process_of c ≡ m.step.process)
    own_case =
        let node = subst (λ (y : Role). NodeHolds (record { me = q; role = y; tree = tree }) w'.net (w'.at q))
        top
        (nodes_hold tree (record { move = m; effect = e } ∷ es) w' thereafter q) in
        let g = node.role.1.own_records c
        (ap (λ (y : Node). has (is_record_of c) y.life) node_so
        ∙ end.appended (is_record_of c) (same_case-refl c)) in
        (g.0, g.1.0)

    case_so : root_case c.txn ≡ c
    case_so = ap (λ (o : Option Ticket). record { txn = c.txn; ticket = o }) (sym own_case.0)

    root_so : c.txn.root ≡ m.step.process
    root_so = ap process_of case_so ∙ own_case.1

    at_root : w'.at c.txn.root ≡ (makes_at tree w m e w' made).node
    at_root = ap w'.at root_so ∙ node_so

    root_role : role_of tree c.txn.root ≡ AtRoot
    root_role = ap (role_of tree) root_so ∙ top

    -- whom the root's case named, it named before
    named_before : (u : Ticket) → Names (w'.at c.txn.root) (root_case c.txn) u
        → has (is_decision_naming c u) (w.at m.step.process).life ≡ true
    named_before u names =
        end.named u
        (ap (λ (y : Node). has (is_decision_naming c u) y.life) (sym at_root)
        ∙ subst (λ (d : Case). has (is_decision_naming d u) (w'.at c.txn.root).life ≡ true)
        case_so names.named)

    -- The first half.

    mixed_then : (s : Option Reports) → r ≡ s → (t : Ticket) → in_list (mixed_in s) t ≡ true
        → (o : Outcome) × Mismatch w' (child_case c.txn t) o
    unfolding in_list
    mixed_then None f t x = absurd (cc)
    mixed_then (Some s) f t x =
        reported_had_mismatch tree is_tree (record { move = m; effect = e } ∷ es) w' thereafter
        c.txn t root_role
        (ap (λ (y : Node). has (reports_mixed (root_case c.txn) t) y.life) at_root
        ∙ (ap (λ (d : Case). has (reports_mixed d t) k.life) case_so
        ∙ end.appended (reports_mixed c t) (mixed_by r f)))
      where
        mixed_by : (a : Option Reports) → a ≡ Some s → reports_mixed c t (EndRecord c a) ≡ true
        mixed_by _ g = rw g (both_true (same_case-refl c) x)
          where
            both_true : {a b : Bool} → a ≡ true → b ≡ true → (a && b) ≡ true
            both_true g h = rw (g, h) refl

    -- The second half, where all read only: nobody is named.

    never_named : has (is_decision c) (w.at m.step.process).life ≡ false → (t : Ticket)
        → IsNamedDown w' c.txn t → ⊥
    never_named none _ (by_root t names) = never _ (named_before t names) (no_decision_naming c t n.life none)
    never_named none _ (by_ticket u t down names) = never_named none u down

    undecided : n.failed ≡ false → (coordinator_view here n c).standing ≡ Collecting
        → has (is_decision c) n.life ≡ false
    undecided up at =
        let given = all_coordinated tree es w plain q None top in
        live_undecided q None tree n (premises tree es w plain q None top given) given
        lasting.unaborted up c (inr at)

    -- And after the last acknowledgement.

    ended_by : n.failed ≡ false → (o : Outcome) (s : Standing) → HasDecided o s
        → (coordinator_view here n c).standing ≡ s
        → has_ended n c o ≡ true
    ended_by up _ _ by_commit f =
        commit_is_old n ((reports_hold tree es w plain).forced q top up) node_at.lasts.nested c
        (committing_facts here n c f).commit
    ended_by up _ _ by_abort f =
        node_at.lasts.nested.kept_was_written (is_abort c) (λ i. refl) (aborting_facts here n c f).abort

    agrees_so : (o : Outcome) → has_ended n c o ≡ true → o ≡ outcome_of w' c.txn
    agrees_so o f =
        (Headline.headline tree is_tree (record { move = m; effect = e } ∷ es) w'
        thereafter).agreement.root_agrees c.txn o
        root_role
        (ends_so (w'.at c.txn.root) c.txn o
        (ap (λ (y : Node). has_ended y (root_case c.txn) o) at_root
        ∙ (ap (λ (d : Case). has_ended k d o) case_so ∙ ended_still here m n e k step c o f)))

    reported_truly : (h : Heard) → n.failed ≡ false → h.version ≡ Second
        → InputAmong since h.input
        → EndsBy here n h c r → ReportsTruly w' c.txn r
    reported_truly h up by now (read_only at) = record {
      mixed_had_mismatch = mixed_then r refl;
      mismatch_is_reported = λ t u mismatch stays down. absurd (never_named (undecided up at) t down);
    }
    reported_truly h up by now (acked_last t' o fs hears from last reports) = record {
      mixed_had_mismatch = mixed_then r refl;
      mismatch_is_reported =
          is_reported tree (record { move = m; effect = e } ∷ es) w' thereafter (since ++ e.messages)
          (since_step tree is_tree es w plain since among holds m e w' second arrives stands made) c.txn o
          (found_below here n c o fs) r
          (reported_so h.version by (found_below here n c o fs) r reports)
          (λ u names. acked_still since e.messages c.txn o (found_below here n c o fs) u
          (all_acked since q None tree n (holds.heard q up) h now c t' o fs hears from last u
          (named_owed here n c lasting.stays o (coordinator_view here n c).standing from refl u
          (named_before u names))))
          (agrees_so o (ended_by up o (coordinator_view here n c).standing from refl));
    }

    pub end_reports_truly : ReportsTruly w' c.txn r
    end_reports_truly = reported_truly end.heard end.up end.by_second end.now end.ends_by

-- Each move since the tree was opened last.

all_truly : (tree : List TreeProcess) → IsTree tree → (v : Version) (before : ℕ) (es : List Made) (w : World)
    → (run : IsRunBy tree v before es w) → v ≡ Second → AllReportTruly tree v before es w run
all_truly tree is_tree _ _ _ _ (first_opens v) second = tt
all_truly tree is_tree _ _ _ _ (next v before es w m e w' run by new made) second = (
  λ j c r top there.
      let s = since_opened tree is_tree before es w
      (subst (λ (u : Version). IsRunBy tree u before es w) second run) in
      let q = m.step.process in
      end_reports_truly tree is_tree es w (runs_by_are_runs tree v before es w run) s.messages
      (among_net w.net before s.messages s.behind) s.holds m e w' (by ∙ second)
      (λ i hp. delivered_among w.net before s.messages s.behind q i
      (subst (λ (x : Happening). IsNewInNet w.net before q x) hp new))
      (stands_new w.net before q m.step.happening new) made top c r j there,
  all_truly tree is_tree v before es w run second,
)
all_truly tree is_tree _ _ _ _ (opens_again v before es w run down) second = tt

pub mismatches_are_reported : (tree : List TreeProcess) → IsTree tree
    → (before : ℕ) (es : List Made) (w : World)
    → (run : IsRunBy tree Second before es w) → AllReportTruly tree Second before es w run
mismatches_are_reported tree is_tree before es w run = all_truly tree is_tree Second before es w run refl
