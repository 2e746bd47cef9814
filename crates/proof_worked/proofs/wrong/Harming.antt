-- Worlds that do not have the headline; and the runs after a wrong step that lead there.
use Rattle.std.proofs.Common.{◌≡◌, ◌⊎◌, inl, inr, Bool, true, false, List, [], if◌then◌else◌}
use Rattle.protocol.specs.declared.names.Case.{Case}
use Rattle.protocol.specs.declared.names.Outcome.{Outcome}
use Rattle.protocol_words.specs.Variants.{AbortedOutcome, CommittedOutcome}
use Rattle.protocol.specs.declared.names.ProcessId.{ProcessId}
use Rattle.protocol.specs.declared.names.Ticket.{Ticket}
use Rattle.protocol.specs.declared.names.Txn.{Txn}
use Rattle.protocol.specs.declared.trees.TreeProcess.{TreeProcess}
use Rattle.protocol.specs.Names.{root_case, child_case, process_of}
use Rattle.protocol.specs.Nodes.{Role, AtRoot, Below, AtLeaf, role_of}
use Rattle.protocol.specs.Outcomes.{Headline, DecisionStands, EndsIn, at_root, by_root, cascaded_ends, consents, first_vote, has_accepted, is_commit_outcome, manager_ends, outcome_of, root_ends}
use Rattle.protocol.specs.Records.{has, is_decided, is_forgot}
use Rattle.protocol.specs.Rows.{process}
use Rattle.protocol.specs.World.{World, Made}
use Rattle.proof_worked.specs.wrong.WrongSteps.{WrongStep, Harms, plays_behind, wrongly_left}
use Rattle.proof_worked.proofs.wrong.PlayedRuns.{player_of, goes_on, goes, are_single, is_run, continues}
use Rattle.proof_worked.proofs.wrong.Breaking.{play_of, reached}

-- where the right steps after a wrong one lead
abbrev pub later_of : WrongStep → World
later_of s = (player_of (plays_behind s (reached s))).world

-- a world that does not have the headline
abbrev pub Fails : List TreeProcess → World → Type 0
Fails tree w = (es : List Made) → Headline tree es w → ⊥

-- the run, the steps after the wrong one, and that the headline fails there
pub by_later : (s : WrongStep) → goes_on (play_of s) ≡ true → are_single s.events ≡ true
    → goes_on (plays_behind s (reached s)) ≡ true → are_single s.behind ≡ true
    → Fails s.tree (later_of s) → Harms s
by_later s go single go_later single_later falls = record {
  player = player_of (play_of s);
  later = player_of (plays_behind s (reached s));
  played_out = goes (play_of s) go;
  is_run = is_run s.tree (process 1) s.events single;
  played_on = goes (plays_behind s (reached s)) go_later;
  continues = continues s.tree (wrongly_left s (reached s)) (process 1) [] s.behind single_later;
  harms = falls;
}

-- The outcome is the other one.

pub not_aborted : (w : World) (x : Txn) → is_commit_outcome w x ≡ true → AbortedOutcome ≡ outcome_of w x → ⊥
not_aborted w x e f = by_test (is_commit_outcome w x) e f
  where
    by_test : (b : Bool) → b ≡ true → AbortedOutcome ≡ (if b then CommittedOutcome else AbortedOutcome) → ⊥
    by_test true g h = absurd (cc)
    by_test false g h = absurd (cc)

pub not_committed : (w : World) (x : Txn) → is_commit_outcome w x ≡ false
    → CommittedOutcome ≡ outcome_of w x → ⊥
not_committed w x e f = by_test (is_commit_outcome w x) e f
  where
    by_test : (b : Bool) → b ≡ false → CommittedOutcome ≡ (if b then CommittedOutcome else AbortedOutcome) → ⊥
    by_test true g h = absurd (cc)
    by_test false g h = absurd (cc)

-- Agreement.

leaf_ends : (tree : List TreeProcess) (w : World) (x : Txn) (t : Ticket) (o : Outcome) (r : Role)
    (p : ProcessId) → r ≡ AtLeaf p → manager_ends (w.at t.child) (child_case x t) o ≡ true
    → EndsIn r tree w x t o
leaf_ends tree w x t o (AtLeaf q) p e f = inl f
leaf_ends tree w x t o _ p e f = absurd (cc)

below_ends : (tree : List TreeProcess) (w : World) (x : Txn) (t : Ticket) (o : Outcome) (r : Role)
    (p : ProcessId) → r ≡ Below p → cascaded_ends (w.at t.child) (child_case x t) o ≡ true
    → EndsIn r tree w x t o
below_ends tree w x t o (Below q) p e f = f
below_ends tree w x t o _ p e f = absurd (cc)

-- a manager ends the transaction otherwise
pub leaf_fails : (tree : List TreeProcess) (w : World) (x : Txn) (t : Ticket) (o : Outcome) (p : ProcessId)
    → role_of tree t.child ≡ AtLeaf p → manager_ends (w.at t.child) (child_case x t) o ≡ true
    → (o ≡ outcome_of w x → ⊥) → Fails tree w
leaf_fails tree w x t o p role ends differs es h =
    differs (h.agreement.others_agree x t o (leaf_ends tree w x t o (role_of tree t.child) p role ends))

-- a cascaded coordinator does
pub below_fails : (tree : List TreeProcess) (w : World) (x : Txn) (t : Ticket) (o : Outcome) (p : ProcessId)
    → role_of tree t.child ≡ Below p → cascaded_ends (w.at t.child) (child_case x t) o ≡ true
    → (o ≡ outcome_of w x → ⊥) → Fails tree w
below_fails tree w x t o p role ends differs es h =
    differs (h.agreement.others_agree x t o (below_ends tree w x t o (role_of tree t.child) p role ends))

-- the root does
pub root_fails : (tree : List TreeProcess) (w : World) (x : Txn) (o : Outcome) → role_of tree x.root ≡ AtRoot
    → root_ends (w.at x.root) x o ≡ true → (o ≡ outcome_of w x → ⊥) → Fails tree w
root_fails tree w x o role ends differs es h = differs (h.agreement.root_agrees x o role ends)

-- The commit rule: the root committed, and heard no vote of a ticket that it accepted.
pub unvoted_fails : (tree : List TreeProcess) (w : World) (x : Txn) (t : Ticket)
    → is_commit_outcome w x ≡ true
    → has_accepted (w.at x.root) (root_case x) t ≡ true
    → consents (first_vote (w.at x.root).voted (root_case x) t) ≡ false → Fails tree w
unvoted_fails tree w x t committed accepted unheard es h =
    falls (h.commit_rule.all_consented x t (root_case x) committed (at_root t accepted) (by_root accepted))
  where
    falls : consents (first_vote (w.at x.root).voted (root_case x) t) ≡ true → ⊥
    falls f = absurd (cc unheard)

-- Standing mismatches: an operator's decision was forced, and no longer stands, and nobody forgot it.
pub lost_fails : (tree : List TreeProcess) (w : World) (c : Case) (o : Outcome)
    → has (is_decided c o) (w.at (process_of c)).durable ≡ true
    → has (is_decided c o) (w.at (process_of c)).forced ≡ false
    → has (is_forgot c) (w.at (process_of c)).life ≡ false → Fails tree w
lost_fails tree w c o ever lost not_forgotten es h = falls (h.standing_mismatches.decisions_stand c o ever)
  where
    falls : DecisionStands (w.at (process_of c)) c o
        ⊎ (has (is_forgot c) (w.at (process_of c)).life ≡ true) → ⊥
    falls (inl f) = absurd (cc (lost, f.is_forced))
    falls (inr f) = absurd (cc not_forgotten)
