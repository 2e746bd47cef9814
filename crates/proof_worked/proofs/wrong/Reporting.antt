-- The wrong bodies that report too little: each breaks the invariant of reports, and leads to an End that
-- reports falsely.
use Rattle.std.proofs.Common.{◌≡◌, ◌∙◌, ◌&&◌, inl, inr, ℕ, Bool, true, false, Some, None, List, [], ◌∷◌, ◌++◌, refl, sym}
use Rattle.std.specs.Prelude.{⊤, not, slice_get}
use Rattle.protocol.specs.declared.names.Outcome.{Outcome}
use Rattle.protocol_words.specs.Variants.{AbortedOutcome, CommittedOutcome}
use Rattle.protocol.specs.declared.names.Presumption.TheVariants.{PresumeAbort}
use Rattle.protocol.specs.declared.names.ProcessId.{ProcessId}
use Rattle.protocol.specs.declared.names.Ticket.{Ticket}
use Rattle.protocol.specs.declared.names.Txn.{Txn}
use Rattle.protocol.specs.declared.messages.Envelope.{Envelope}
use Rattle.protocol.specs.declared.messages.Message.{Message}
use Rattle.protocol.specs.declared.messages.Message.TheVariants.{Ack}
use Rattle.protocol.specs.declared.records.Record.TheVariants.{End}
use Rattle.protocol.specs.declared.trees.TreeProcess.{TreeProcess}
use Rattle.protocol.specs.Names.{child_case, same_case}
use Rattle.protocol.specs.NameLaws.{same_case-refl}
use Rattle.protocol.specs.Nodes.{AtRoot, Below, entries_written, role_of}
use Rattle.protocol.specs.Outcomes.{DecisionStands, Mismatch, has_last, is_commit_outcome, sent}
use Rattle.protocol.specs.Plays.{Player, Played}
use Rattle.protocol.specs.Records.{has, in_list, is_decided, mixed_of, unreported_of}
use Rattle.protocol.specs.Rows.{process, tree_b, txn}
use Rattle.protocol.specs.World.{Made, MayHappen, World}
use Rattle.protocol.specs.Audits.{is_decision_naming}
use Rattle.proof_reports.specs.Mismatches.{IsNamedDown, Names, ReportsTruly, by_root, by_ticket}
use Rattle.proof_reports.specs.SinceOpened.{Acked, IsAmong, SinceOpened}
use Rattle.proof_reports.proofs.Found.{among_second, among_sent}
use Rattle.proof_worked.specs.SecondPlays.{second_plays_all}
use Rattle.proof_worked.specs.wrong.WrongBodies.{case_at, post, second, third, top}
use Rattle.proof_worked.specs.wrong.WrongReports.{BreaksReports, HarmsReports, ReportsFalsely, second_plays_behind}
use Rattle.proof_worked.specs.wrong.WrongReports
use Rattle.proof_worked.specs.wrong.WrongSteps.{WrongStep, wrongly_left}
use Rattle.proof_worked.proofs.wrong.Computing
use Rattle.proof_worked.proofs.wrong.Harming.{not_aborted}
use Rattle.proof_worked.proofs.wrong.PlayedRuns.{are_single, goes, goes_on, player_of}
use Rattle.proof_worked.proofs.wrong.SecondPlayed.{continues_by, is_run_by}
use Rattle.proof_worked.proofs.wrong.Trees.{tree_b_is_tree}

-- what these runs compute with
unfoldable computing : ⊤
unfolding Computing.computing has_last mixed_of unreported_of
computing = tt

-- Runs by the second version.

abbrev play_of : WrongStep → Played
play_of s = second_plays_all s.tree (process 1) s.events

abbrev reached : WrongStep → World
reached s = (player_of (play_of s)).world

abbrev left_by : WrongStep → World
left_by s = wrongly_left s (reached s)

abbrev later_of : WrongStep → Player
later_of s = player_of (second_plays_behind s (reached s))

breaks_by : (s : WrongStep) → goes_on (play_of s) ≡ true → are_single s.events ≡ true
    → MayHappen (reached s).net s.process s.happening → s.tree ≡ tree_b
    → (SinceOpened s.tree (left_by s).net (left_by s) → ⊥) → BreaksReports s
breaks_by s go single stands is_b falls = record {
  player = player_of (play_of s);
  played_out = goes (play_of s) go;
  is_tree = rw is_b tree_b_is_tree;
  is_run = is_run_by s.tree (process 1) s.events single;
  stands = stands;
  breaks = falls;
}

harms_by : (s : WrongStep) → goes_on (play_of s) ≡ true → are_single s.events ≡ true
    → goes_on (second_plays_behind s (reached s)) ≡ true → are_single s.behind ≡ true
    → ReportsFalsely s.tree (later_of s).moves (later_of s).world → HarmsReports s
harms_by s go single go_later single_later falls = record {
  player = player_of (play_of s);
  later = later_of s;
  played_out = goes (play_of s) go;
  is_run = is_run_by s.tree (process 1) s.events single;
  played_on = goes (second_plays_behind s (reached s)) go_later;
  continues = continues_by s.tree (wrongly_left s (reached s)) (process 1) [] s.behind single_later;
  harms = falls;
}

-- On variables: an acknowledgement that is clear, of a case that named a ticket, without one of that ticket.

last_sent : (net : List Envelope) (p q : ℕ) (m : Message) → IsAmong m (net ++ post p q m ∷ [])
last_sent net p q m = among_second m net (post p q m ∷ []) (inl refl)

-- an acknowledgement of the case that does not report its own ticket as mixed
abbrev acks_without : Txn → Ticket → Message → Bool
acks_without x t (Ack d o fs) = same_case d (child_case x t) && not (in_list (mixed_of fs) t)
acks_without x t _ = false

nothing_reports : (t : Ticket) → in_list (mixed_of []) t ≡ false
unfolding computing
nothing_reports t = refl

and_not : (a b : Bool) → a ≡ true → b ≡ false → (a && not b) ≡ true
and_not a b e f = rw (e, f) refl

contrary : {A : Type 0} (b : Bool) → b ≡ true → b ≡ false → A
contrary b e f = absurd (let g = sym e ∙ f in cc)

no_ack : (ls : List Envelope) (x : Txn) (o : Outcome) (t : Ticket) → sent (acks_without x t) ls ≡ false
    → Acked ls x o [] t → ⊥
no_ack ls x o t none a = by_test (in_list (mixed_of a.found) t) refl
  where
    by_test : (b : Bool) → in_list (mixed_of a.found) t ≡ b → ⊥
    by_test true e = contrary (in_list (mixed_of []) t) (a.within.mixed t e) (nothing_reports t)
    by_test false e =
        contrary (sent (acks_without x t) ls)
        (among_sent (acks_without x t) (Ack (child_case x t) o a.found)
        (and_not (same_case (child_case x t) (child_case x t)) (in_list (mixed_of a.found) t)
        (same_case-refl (child_case x t)) e) ls a.is_sent) none

clear_of : (t : Ticket) → in_list (unreported_of []) t ≡ false
unfolding computing
clear_of t = refl

uncovered : (tree : List TreeProcess) (net : List Envelope) (w : World) (x : Txn)
    (t u : Ticket) (p : ProcessId)
    (a b : ℕ) → role_of tree t.child ≡ Below p
    → has (is_decision_naming (child_case x t) u) (w.at t.child).life ≡ true
    → sent (acks_without x u) (net ++ post a b (Ack (child_case x t) CommittedOutcome []) ∷ []) ≡ false
    → SinceOpened tree (net ++ post a b (Ack (child_case x t) CommittedOutcome []) ∷ []) w → ⊥
uncovered tree net w x t u p a b role named none holds =
    no_ack (net ++ post a b (Ack (child_case x t) CommittedOutcome []) ∷ []) x CommittedOutcome u none
    ((holds.coordinators x t p role CommittedOutcome []
    (last_sent net a b (Ack (child_case x t) CommittedOutcome []))
    (clear_of t)).named u named)

-- On variables: an End without a report, where a mismatch stands that is named down.

nobody_in : {A : Type 0} (t : Ticket) → in_list [] t ≡ true → A
unfolding computing
nobody_in t e = absurd (cc)

unreported_fails : (w : World) (x : Txn) (t : Ticket) (o : Outcome) → Mismatch w (child_case x t) o
    → DecisionStands (w.at t.child) (child_case x t) o → IsNamedDown w x t → ReportsTruly w x None → ⊥
unreported_fails w x t o mismatch stands down truly =
    elim (truly.mismatch_is_reported t o mismatch stands down) [
      | inl e ↦ nobody_in t e
      | inr l ↦ nobody_in l.top l.reported
    ]

-- the mismatch of manager 3, below coordinator 2
pub record StandsBelow (w : World) : Type 0 where
  pub decided : has (is_decided (case_at PresumeAbort third) AbortedOutcome) (w.at third.child).durable ≡ true
  pub committed : is_commit_outcome w (txn 1 1 PresumeAbort) ≡ true
  pub stands : DecisionStands (w.at third.child) (case_at PresumeAbort third) AbortedOutcome
  pub root_names : Names (w.at (process 1)) (top PresumeAbort) second
  pub second_names : Names (w.at second.child) (case_at PresumeAbort second) third

below_fails : (w : World) → StandsBelow w → ReportsTruly w (txn 1 1 PresumeAbort) None → ⊥
below_fails w s =
    unreported_fails w (txn 1 1 PresumeAbort) third AbortedOutcome
    (record { decided = s.decided; differs = not_aborted w (txn 1 1 PresumeAbort) s.committed }) s.stands
    (by_ticket second third (by_root second s.root_names) s.second_names)

-- The coordinator that does not wait for its child.

early_goes : goes_on (play_of WrongReports.acknowledges_before_children) ≡ true
unfolding computing
early_goes = refl

early_stands : MayHappen (reached WrongReports.acknowledges_before_children).net
    WrongReports.acknowledges_before_children.process WrongReports.acknowledges_before_children.happening
unfolding computing
early_stands = record { sender = process 1; place = 9; stands = refl }

early_named : has (is_decision_naming (case_at PresumeAbort second) third)
    ((left_by WrongReports.acknowledges_before_children).at second.child).life ≡ true
unfolding computing
early_named = refl

early_unacked : sent (acks_without (txn 1 1 PresumeAbort) third)
    (left_by WrongReports.acknowledges_before_children).net ≡ false
unfolding computing
early_unacked = refl

second_is_below : role_of tree_b second.child ≡ Below (process 1)
unfolding computing
second_is_below = refl

pub acknowledges_before_children_breaks : BreaksReports WrongReports.acknowledges_before_children
acknowledges_before_children_breaks =
    breaks_by WrongReports.acknowledges_before_children early_goes refl early_stands refl
    (uncovered tree_b (reached WrongReports.acknowledges_before_children).net
    (left_by WrongReports.acknowledges_before_children)
    (txn 1 1 PresumeAbort) second third (process 1) 2 1 second_is_below early_named early_unacked)

early_goes_on : goes_on (second_plays_behind WrongReports.acknowledges_before_children
    (reached WrongReports.acknowledges_before_children)) ≡ true
unfolding computing
early_goes_on = refl

early_below : StandsBelow (later_of WrongReports.acknowledges_before_children).world
unfolding computing
early_below = record {
  decided = refl;
  committed = refl;
  stands = record { is_forced = refl; not_forgotten = refl };
  root_names = record { accepted = refl; named = refl };
  second_names = record { accepted = refl; named = refl };
}

-- the End of the last move has no report
abbrev LastEnds : List Made → Type 0
LastEnds [] = ⊥
LastEnds (e ∷ es) = (role_of tree_b e.move.step.process ≡ AtRoot)
    × (slice_get (entries_written e.effect.written) 0 ≡ Some (End (top PresumeAbort) None))

falsely : (es : List Made) (w : World) → LastEnds es → StandsBelow w → ReportsFalsely tree_b es w
falsely [] w l s = l
falsely (e ∷ es) w l s = λ truly. below_fails w s (truly 0 (top PresumeAbort) None l.0 l.1)

early_ends : LastEnds (later_of WrongReports.acknowledges_before_children).moves
unfolding computing
early_ends = (refl, refl)

pub acknowledges_before_children_harms : HarmsReports WrongReports.acknowledges_before_children
acknowledges_before_children_harms =
    harms_by WrongReports.acknowledges_before_children early_goes refl early_goes_on refl
    (falsely (later_of WrongReports.acknowledges_before_children).moves
    (later_of WrongReports.acknowledges_before_children).world early_ends early_below)

-- The coordinator that knows nothing any more.

unknown_goes : goes_on (play_of WrongReports.unknown_reports_nothing) ≡ true
unfolding computing
unknown_goes = refl

unknown_stands : MayHappen (reached WrongReports.unknown_reports_nothing).net
    WrongReports.unknown_reports_nothing.process WrongReports.unknown_reports_nothing.happening
unfolding computing
unknown_stands = record { sender = process 1; place = 9; stands = refl }

unknown_named : has (is_decision_naming (case_at PresumeAbort second) third)
    ((left_by WrongReports.unknown_reports_nothing).at second.child).life ≡ true
unfolding computing
unknown_named = refl

unknown_unacked : sent (acks_without (txn 1 1 PresumeAbort) third)
    (left_by WrongReports.unknown_reports_nothing).net
    ≡ false
unfolding computing
unknown_unacked = refl

pub unknown_reports_nothing_breaks : BreaksReports WrongReports.unknown_reports_nothing
unknown_reports_nothing_breaks =
    breaks_by WrongReports.unknown_reports_nothing unknown_goes refl unknown_stands refl
    (uncovered tree_b (reached WrongReports.unknown_reports_nothing).net
    (left_by WrongReports.unknown_reports_nothing)
    (txn 1 1 PresumeAbort) second third (process 1) 2 1 second_is_below unknown_named unknown_unacked)

unknown_goes_on : goes_on (second_plays_behind WrongReports.unknown_reports_nothing
    (reached WrongReports.unknown_reports_nothing)) ≡ true
unfolding computing
unknown_goes_on = refl

unknown_below : StandsBelow (later_of WrongReports.unknown_reports_nothing).world
unfolding computing
unknown_below = record {
  decided = refl;
  committed = refl;
  stands = record { is_forced = refl; not_forgotten = refl };
  root_names = record { accepted = refl; named = refl };
  second_names = record { accepted = refl; named = refl };
}

unknown_ends : LastEnds (later_of WrongReports.unknown_reports_nothing).moves
unfolding computing
unknown_ends = (refl, refl)

pub unknown_reports_nothing_harms : HarmsReports WrongReports.unknown_reports_nothing
unknown_reports_nothing_harms =
    harms_by WrongReports.unknown_reports_nothing unknown_goes refl unknown_goes_on refl
    (falsely (later_of WrongReports.unknown_reports_nothing).moves
    (later_of WrongReports.unknown_reports_nothing).world
    unknown_ends unknown_below)
