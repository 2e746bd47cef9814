-- The recursion upward gives each case that promised the outcome of its transaction.
use Rattle.std.proofs.Common.{◌≡◌, ◌∙◌, ◌⊎◌, inl, inr, ◌||◌, ◌&&◌, ℕ, zero, suc, Bool, true, false, Option, Some, None, is_none, List, refl, sym, ap, subst, arith}
use Rattle.protocol.specs.declared.names.Case.{Case}
use Rattle.protocol.specs.declared.names.Outcome.{Outcome}
use Rattle.protocol.specs.declared.names.Outcome.TheVariants.{Aborted}
use Rattle.protocol.specs.declared.names.ProcessId.{ProcessId}
use Rattle.protocol.specs.declared.names.Ticket.{Ticket}
use Rattle.protocol.specs.declared.names.Txn.{Txn}
use Rattle.protocol.specs.declared.trees.TreeProcess.{TreeProcess}
use Rattle.protocol.specs.Names.{child_case, process_of}
use Rattle.protocol.specs.Records.{has, is_abort, is_commit, is_end, is_forgot, is_prepare}
use Rattle.protocol.specs.Nodes.{Node, is_listed, kept, place_of, role_of}
use Rattle.protocol.specs.Outcomes.{is_commit_outcome, is_joined_message, outcome_of, sent}
use Rattle.protocol.specs.Trees.{level_within}
use Rattle.protocol.specs.World.{World}
use Rattle.proof_pairs.specs.Promises.{AuditedOutcome}
use Rattle.proof_pairs.specs.Reading.{Reading}
use Rattle.proof_pairs.specs.Standing.{IsInDoubt}
use Rattle.protocol.specs.Audits.{is_collecting_naming, is_decision_naming, is_learnt_abort, is_learnt_commit, is_prepare_naming, is_promise}
use Rattle.proof_processes.specs.Marks.{is_branch_record}
use Rattle.proof_processes.specs.Numbers.{IsIssuer}
use Rattle.proof_processes.specs.WorldHolds.{InvariantOf, IsPair, IsParentRole, PairHolds, WorldHolds, is_record_of, pair_reading}
use Rattle.protocol.specs.Audits.{is_naming}
use Rattle.proof_processes.proofs.Levels.{parent_climbs}
use Rattle.proof_processes.proofs.PairOf.{common_of, given}
use Rattle.proof_processes.proofs.Tests.{and, left, right}
use Rattle.proof_processes.proofs.Worlds.{has_other}
use Rattle.proof_headline.proofs.Ends.{has_either, issues_in}
use Rattle.proof_headline.proofs.Pairs.{joined_pair}
use Rattle.proof_headline.proofs.Parts.{case_parts}
use Rattle.protocol.specs.Audits.{AllUp, KeptLogs, asked_above, decided_or, decision_by, is_abort_learnt, logs_of_world, naming_case, outcome_within, own_decision, said_above}
use Rattle.proof_headline.proofs.auditor.Endings.{none_ended}
use Rattle.proof_headline.proofs.auditor.Naming.{named_is, named_none, naming_tells}
use Rattle.proof_headline.proofs.auditor.Sinces.{own_same}
use Rattle.proof_headline.proofs.auditor.RootLines.{learnt_abort, learnt_commit}
use Rattle.proof_headline.proofs.auditor.Verdicts.{abort_either, abort_learns, abort_with_promise, aborts_so, by_own, by_own_or_abort, commit_learns, commits_so, coordinators_none, forgot_of_branch, is_presumed_commit, issuer_of_child, issuer_of_parent, none_so, own_abort_learns, pair_audited, parent_at, prepare_promises, presumes_so, promise_record, says_abort, says_commit, says_presumed, undecided_so}

-- The climb.

module _ (tree : List TreeProcess) (w : World) (h : WorldHolds tree w) (up : AllUp tree w) where
  abbrev logs : KeptLogs
  logs = logs_of_world w

  -- by a climb of N levels each case that promised, and that no operator forgot, gets the outcome
  abbrev Says : ℕ → Type 0
  Says k = (x : Txn) (t : Ticket) → is_listed tree t.child ≡ true → IsIssuer (role_of tree t.child)
      → has (is_promise (child_case x t)) (kept (w.at t.child)) ≡ true
      → has (is_forgot (child_case x t)) (kept (w.at t.child)) ≡ false
      → is_none (level_within k tree t.child) ≡ false
      → outcome_within k tree (logs_of_world w) (child_case x t) ≡ outcome_of w x

  module _ (c : Case) (t : Ticket) (joined : sent (is_joined_message c t) w.net ≡ true) where
    abbrev r : Reading
    r = pair_reading tree w c t

    abbrev n : Node
    n = w.at (process_of c)

    abbrev d : Case
    d = child_case c.txn t

    abbrev k : Node
    k = w.at t.child

    pair : IsPair tree c t
    pair = (joined_pair tree w h c t joined).0

    holds : PairHolds tree w c t
    holds = (joined_pair tree w h c t joined).1

    audit : AuditedOutcome (InvariantOf c.txn.presumption) (is_presumed_commit c.txn.presumption)
    audit = pair_audited c.txn.presumption

    parent_up : (w.at (process_of c)).failed ≡ false
    parent_up = up (process_of c) pair.parent.listed

    child_up : (w.at t.child).failed ≡ false
    child_up = up t.child pair.listed

    no_branch_record : has (is_branch_record c) (kept (w.at (process_of c))) ≡ false
    no_branch_record = coordinators_none (role_of tree (process_of c)) n c c.ticket pair.parent.role
        (h.nodes (process_of c) pair.parent.listed).lasts

    parent_own : own_decision c (kept (w.at (process_of c)))
        ≡ decision_by (has (is_learnt_commit c) (kept (w.at (process_of c))))
        (has (is_abort_learnt c) (kept (w.at (process_of c))))
        (has (is_promise c) (kept (w.at (process_of c))) || has (is_end c) (kept (w.at (process_of c))))
    parent_own = own_same (role_of tree (process_of c)) n c (h.nodes
        (process_of c) pair.parent.listed).lasts

    child_own : own_decision (child_case c.txn t) (kept (w.at t.child))
        ≡ decision_by (has (is_learnt_commit (child_case c.txn t)) (kept (w.at t.child)))
        (has (is_abort_learnt (child_case c.txn t)) (kept (w.at t.child)))
        (has (is_promise (child_case c.txn t)) (kept (w.at t.child))
        || has (is_end (child_case c.txn t)) (kept (w.at t.child)))
    child_own = own_same (role_of tree t.child) k d (h.nodes t.child pair.listed).lasts

    named_so : (b : Bool) → has (is_naming c t) (kept (w.at (process_of c))) ≡ b
        → (has (is_collecting_naming c t) (kept (w.at (process_of c)))
        || has (is_prepare_naming c t) (kept (w.at (process_of c)))
        || has (is_decision_naming c t) (kept (w.at (process_of c)))) ≡ b
    named_so b e = sym (naming_tells c t (kept n)) ∙ e

    -- The parent's case, which names the ticket of a case in doubt.

    module _ (doubt : IsInDoubt (pair_reading tree w c t))
        (named : has (is_naming c t) (kept (w.at (process_of c))) ≡ true)
      where
        if_commit : has (is_learnt_commit c) (kept (w.at (process_of c))) ≡ true
            → is_commit_outcome w c.txn ≡ true
        if_commit e = audit.commit r holds parent_up child_up doubt
            (commits_so _ _ (has (is_abort c) (kept n)) (has (is_prepare c) (kept n)) (named_so true named)
            (learnt_commit c (kept n) no_branch_record e))

        none_committed : has (is_learnt_commit c) (kept (w.at (process_of c))) ≡ false
            → has (is_commit c) (kept (w.at (process_of c))) ≡ false
        none_committed e = none_so (is_commit c) (is_learnt_commit c) (kept n) (commit_learns c) e

        if_undecided : has (is_learnt_commit c) (kept (w.at (process_of c))) ≡ false
            → has (is_prepare c) (kept (w.at (process_of c))) ≡ false → is_commit_outcome w c.txn ≡ false
        if_undecided e f = audit.abort r holds parent_up child_up doubt
            (undecided_so _ _ (has (is_abort c) (kept n)) _ (named_so true named) (none_committed e) f)

        if_abort : has (is_learnt_commit c) (kept (w.at (process_of c))) ≡ false
            → (has (is_abort_learnt c) (kept (w.at (process_of c))) ≡ true)
            ⊎ (has (is_promise c) (kept (w.at (process_of c))) ≡ false)
            → is_commit_outcome w c.txn ≡ false
        if_abort e (inl f) = audit.abort r holds parent_up child_up doubt
            (aborts_so _ _ _ (has (is_prepare c) (kept n)) (named_so true named) (none_committed e)
            (learnt_abort c (kept n) no_branch_record f))
        if_abort e (inr f) = if_undecided e (none_so (is_prepare c) (is_promise c) (kept n)
            (prepare_promises c) f)

        -- it has not ended
        own_in_doubt : own_decision c (kept (w.at (process_of c)))
            ≡ decision_by (has (is_learnt_commit c) (kept (w.at (process_of c))))
            (has (is_abort_learnt c) (kept (w.at (process_of c)))) (has (is_promise c) (kept (w.at
            (process_of c))))
        own_in_doubt =
            parent_own
            ∙ ap (decision_by (has (is_learnt_commit c) (kept n)) (has (is_abort_learnt c) (kept n)))
            (or_none (has (is_promise c) (kept n)) (has (is_end c) (kept n))
            (none_ended c.txn.presumption r holds doubt))
          where
            or_none : (a b : Bool) → b ≡ false → (a || b) ≡ a
            or_none true b e = refl
            or_none false b e = e

        -- one that has not promised answers by itself
        unpromised_says : (j : ℕ) → has (is_promise c) (kept (w.at (process_of c))) ≡ false
            → outcome_within (suc j) tree (logs_of_world w) c ≡ outcome_of w c.txn
        unpromised_says j e =
            ap (λ (o : Option Outcome). decided_or o
            (asked_above (outcome_within j tree logs) tree logs c.txn c.ticket)) own_in_doubt
            ∙ by_own w c.txn (has (is_learnt_commit c) (kept n)) (has (is_abort_learnt c) (kept n))
            (has (is_promise c) (kept n)) if_commit if_abort e _

        -- the root promises nobody
        root_says : (j : ℕ) → c.ticket ≡ None
            → outcome_within (suc j) tree (logs_of_world w) c ≡ outcome_of w c.txn
        root_says j f =
            ap (λ (o : Option Ticket). decided_or (own_decision c (kept n))
            (asked_above (outcome_within j tree logs) tree logs c.txn o)) f
            ∙ (ap (λ (o : Option Outcome). decided_or o Aborted) own_in_doubt
            ∙ by_own_or_abort w c.txn (has (is_learnt_commit c) (kept n)) (has (is_abort_learnt c) (kept n))
            (has (is_promise c) (kept n)) if_commit if_abort
            (λ e. if_undecided e ((common_of c.txn.presumption r holds).root_promises_nobody
            (ap (λ (o : Option Ticket). is_root o) f)).0))
          where
            is_root : Option Ticket → Bool
            is_root None = true
            is_root (Some u) = false

        -- one below the root that promised is a case like those that ask
        promised_says : (j : ℕ) → Says j → (u : Ticket) → c.ticket ≡ Some u
            → has (is_promise c) (kept (w.at (process_of c))) ≡ true
            → is_none (level_within j tree (process_of c)) ≡ false
            → outcome_within j tree (logs_of_world w) c ≡ outcome_of w c.txn
        promised_says j says u f e level =
            let same : c ≡ child_case c.txn u = case_parts c c.txn (Some u) refl f in
            let at : process_of c ≡ u.child = ap process_of same in
            ap (outcome_within j tree logs) same ∙ says c.txn u
            (subst (λ (q : ProcessId). is_listed tree q ≡ true) at pair.parent.listed)
            (issuer_of_parent (role_of tree u.child) u (subst (λ (q : ProcessId). IsParentRole
            (role_of tree q) (Some u)) at
            (subst (λ (o : Option Ticket). IsParentRole (role_of tree
            (process_of c)) o) f pair.parent.role)))
            (subst (λ (b : Case). has (is_promise b) (kept (w.at (process_of b))) ≡ true) same e)
            (subst (λ (b : Case). has (is_forgot b) (kept (w.at (process_of b))) ≡ false) same
            (none_so (is_forgot c) (is_branch_record c) (kept n) (forgot_of_branch c) no_branch_record))
            (subst (λ (q : ProcessId). is_none (level_within j tree q) ≡ false) at level)

        parent_says : (j : ℕ) → Says j → is_none (level_within j tree (process_of c)) ≡ false
            → outcome_within j tree (logs_of_world w) c ≡ outcome_of w c.txn
        parent_says zero says level = absurd (cc)
        parent_says (suc j) says level = by_promise (has (is_promise c) (kept n)) refl c.ticket refl
          where
            by_promise : (b : Bool) → has (is_promise c) (kept (w.at (process_of c))) ≡ b
                → (o : Option Ticket)
                → c.ticket ≡ o → outcome_within (suc j) tree (logs_of_world w) c ≡ outcome_of w c.txn
            by_promise false e o f = unpromised_says j e
            by_promise true e None f = root_says j f
            by_promise true e (Some u) f = promised_says (suc j) says u f e level

    -- The case itself.

    module _ (promised : has (is_promise (child_case c.txn t)) (kept (w.at t.child)) ≡ true)
        (standing : has (is_forgot (child_case c.txn t)) (kept (w.at t.child)) ≡ false)
      where
        and_false : (a b : Bool) → a ≡ false → (a && b) ≡ false
        and_false a b e = grind arith

        or_false : (a b : Bool) → a ≡ false → b ≡ false → (a || b) ≡ false
        or_false a b e f = grind arith

        in_doubt : has (is_learnt_commit (child_case c.txn t)) (kept (w.at t.child)) ≡ false
            → has (is_abort_learnt (child_case c.txn t)) (kept (w.at t.child)) ≡ false
            → IsInDoubt (pair_reading tree w c t)
        in_doubt e f = record {
          prepared = promised;
          no_commit = e;
          no_abort = or_false (has (is_learnt_abort d) (kept k)) _
              (none_so (is_learnt_abort d) (is_abort_learnt d) (kept k) (abort_learns d) f)
              (and_false (has (is_abort d) (kept k)) (has (is_prepare d) (kept k))
              (none_so (is_abort d) (is_abort_learnt d) (kept k) (own_abort_learns d) f));
          not_forgotten = standing;
        }

        has_aborted : has (is_abort_learnt (child_case c.txn t)) (kept (w.at t.child)) ≡ true
            → is_commit_outcome w c.txn ≡ false
        has_aborted e = audit.own_abort r holds (elim (has_either (is_abort_learnt d) (is_learnt_abort d)
            (is_abort d)
            (kept k) (abort_either d) e) [
              | inl f ↦ left _ _ f
              | inr f ↦ right (has (is_learnt_abort d) (kept k)) _ (and _ _ f
                  (abort_with_promise (role_of tree t.child) k d
                  (issuer_of_child (role_of tree t.child) (process_of c) pair.child)
                  (h.nodes t.child pair.listed).lasts f promised))
            ])

        asks : (j : ℕ) → Says j → is_none (level_within (suc j) tree t.child) ≡ false
            → IsInDoubt (pair_reading tree w c t)
            → asked_above (outcome_within j tree (logs_of_world w)) tree (logs_of_world w) c.txn (Some t)
            ≡ outcome_of w c.txn
        asks j says level doubt =
            let at = parent_at (role_of tree t.child) t.child (process_of c) pair.child in
            ap (λ (q : ProcessId). said_above (outcome_within j tree logs) c.txn.presumption
            (naming_case tree q c.txn t (kept (w.at q)))) at
            ∙ by_naming (has (is_naming c t) (kept n)) refl
          where
            by_naming : (b : Bool) → has (is_naming c t) (kept (w.at (process_of c))) ≡ b
                → said_above (outcome_within j tree (logs_of_world w)) c.txn.presumption
                (naming_case tree (process_of c) c.txn t (kept (w.at (process_of c)))) ≡ outcome_of w c.txn
            by_naming true e =
                ap (said_above (outcome_within j tree logs) c.txn.presumption)
                (named_is tree w h c t joined e)
                ∙ parent_says doubt e j says (parent_climbs tree j t.child (process_of c) pair.child level)
            by_naming false e =
                ap (said_above (outcome_within j tree logs) c.txn.presumption)
                (named_none tree w h c t joined e)
                ∙ says_presumed w c.txn c.txn.presumption
                (audit.presumption r holds parent_up child_up doubt
                (presumes_so _ (has (is_commit c) (kept n)) (has (is_abort c) (kept n)) (has
                (is_prepare c) (kept n))
                (named_so false e)))

        child_says : (j : ℕ) → Says j → is_none (level_within (suc j) tree t.child) ≡ false
            → outcome_within (suc j) tree (logs_of_world w) (child_case c.txn t) ≡ outcome_of w c.txn
        child_says j says level =
            ap (λ (o : Option Outcome). decided_or o
            (asked_above (outcome_within j tree logs) tree logs c.txn (Some t))) child_own
            ∙ by_tests (has (is_learnt_commit d) (kept k)) (has (is_abort_learnt d) (kept k))
            (has (is_promise d) (kept k) || has (is_end d) (kept k)) refl refl (left _ _ promised)
          where
            by_tests : (a b p : Bool) → has (is_learnt_commit (child_case c.txn t)) (kept (w.at t.child))
                ≡ a
                → has (is_abort_learnt (child_case c.txn t)) (kept (w.at t.child)) ≡ b → p ≡ true
                → decided_or (decision_by a b p)
                (asked_above (outcome_within j tree (logs_of_world w)) tree (logs_of_world w) c.txn
                (Some t))
                ≡ outcome_of w c.txn
            by_tests true b p e f g = says_commit w c.txn (audit.own_commit r holds e)
            by_tests false true p e f g = says_abort w c.txn (has_aborted f)
            by_tests false false true e f g = asks j says level (in_doubt e f)
            by_tests false false false e f g = absurd (cc)

  -- each case that promised gets the outcome
  pub climb_says : (j : ℕ) → Says j
  climb_says zero x t listed i promised standing level = absurd (cc)
  climb_says (suc j) x t listed i promised standing level =
      let node = h.nodes t.child listed in
      let recorded = (issues_in (role_of tree t.child) (place_of tree t.child) w.net (w.at t.child) i
      node.role).recorded_is_given (child_case x t)
      (has_other (is_promise (child_case x t)) (is_record_of (child_case x t)) (w.at t.child).life
      (promise_record (child_case x t))
      (node.lasts.nested.kept_was_written (is_promise (child_case x t)) (λ q. refl) promised)) in
      let g = given w.net x t recorded.1 in
      subst (λ (y : Txn). has (is_promise (child_case y t)) (kept (w.at t.child)) ≡ true
      → has (is_forgot (child_case y t)) (kept (w.at t.child)) ≡ false
      → outcome_within (suc j) tree (logs_of_world w) (child_case y t) ≡ outcome_of w y) g.same
      (λ p f. child_says g.of t g.joined p f j (climb_says j) level) promised standing
