-- What a crash leaves of a manager's log is a front of it that holds the forced one; so a restart is a move
-- of its pairs.
use Rattle.std.proofs.Common.{◌≡◌, ◌∙◌, ◌||◌, ◌&&◌, ◌⊎◌, inl, inr, ℕ, Bool, ◌+◌, true, false, List, [], ◌∷◌, ◌++◌, take, drop, append_assoc, refl, sym, ap, subst, arith}
use Rattle.std.proofs.lemmas.List.{take-append-drop}
use Rattle.protocol.specs.declared.names.Case.{Case}
use Rattle.protocol.specs.declared.names.Ticket.{Ticket}
use Rattle.protocol.specs.declared.names.Presumption.{Presumption}
use Rattle.protocol.specs.declared.messages.Envelope.{Envelope}
use Rattle.protocol.specs.declared.records.Record.TheVariants.{Opened}
use Rattle.protocol.specs.Names.{child_case}
use Rattle.protocol.specs.declared.names.ProcessId.{ProcessId}
use Rattle.protocol_words.specs.Variants.{CommittedOutcome}
use Rattle.protocol.specs.declared.records.Record.{Record}
use Rattle.protocol.specs.declared.trees.TreeProcess.{TreeProcess}
use Rattle.protocol.specs.Records.{has, boot_of, is_abort, is_prepare, is_heuristic, is_decided, is_forgot}
use Rattle.protocol.specs.Nodes.{Place, AtLeaf, Node, kept}
use Rattle.protocol.specs.Restarts.{left_of, restarted, restart_effect}
use Rattle.protocol.specs.Standings.{Unmarked, manager_view}
use Rattle.proof_pairs.specs.Reading.{Reading}
use Rattle.proof_pairs.specs.ChildCrash
use Rattle.proof_pairs.specs.ChildCrash.{ChildFront}
use Rattle.proof_pairs.specs.Invariant.{Common}
use Rattle.proof_pairs.proofs.readings.RestartStep.{half_restarts, wire-restarts, inquires, reading-restarts, promises}
use Rattle.proof_pairs.specs.readings.ReadingOf.{reading_from, ParentHalf, ChildHalf, Wire, wire, child_half}
use Rattle.protocol.specs.Audits.{is_promise, is_learnt_commit, is_learnt_abort}
use Rattle.proof_pairs.specs.readings.Halves.{child_front, is_in_doubt}
use Rattle.proof_pairs.specs.readings.StepLaws.{LastRecordTells}
use Rattle.proof_pairs.specs.turns.Written.{is_coordinators}
use Rattle.proof_processes.specs.Lasts.{logs_of, Lasts}
use Rattle.proof_processes.specs.Marks.{in_order_from}
use Rattle.proof_processes.proofs.Tests.{in_first, not_both}
use Rattle.proof_processes.proofs.Orders.{order_front}
use Rattle.proof_processes.proofs.Worlds.{has_other}
use Rattle.proof_processes.specs.WorldHolds.{InvariantOf}
use Rattle.proof_steps.proofs.children.FailMoves
use Rattle.proof_steps.proofs.children.Moves
use Rattle.proof_steps.proofs.children.Moves.{Fits}
use Rattle.proof_steps.proofs.children.Fronts as fronts
use Rattle.proof_steps.proofs.children.LastRecords.{last_tells, decided_in_front}

more : (a b c a' b' c' : Bool) → (a ≡ true → a' ≡ true) → (b ≡ true → b' ≡ true) → (c ≡ true → c' ≡ true)
    → (a || (b && c)) ≡ true → (a' || (b' && c')) ≡ true
more a b c a' b' c' f g h e = grind arith

learnt_only : (a b c : Bool) → b ≡ false → (a || (b && c)) ≡ true → a ≡ true
learnt_only a b c f e = grind arith

abort_is : (d : Case) (x : Record) → is_abort d x ≡ true → is_coordinators x ≡ true
abort_is d x e = grind arith

decided_is : (d : Case) (x : Record) → is_decided d CommittedOutcome x ≡ true → is_heuristic d x ≡ true
decided_is d x e = grind arith

none_in : (q r : Record → Bool) (xs ys : List Record) → ((x : Record) → q x ≡ true → r x ≡ true)
    → (has r xs ≡ true → has r ys ≡ true) → has r ys ≡ false → has q xs ≡ false
none_in q r xs ys f g e = by_test (has q xs) refl
  where
    by_test : (b : Bool) → has q xs ≡ b → has q xs ≡ false
    by_test true h = not_both q (has r ys) (g (has_other q r xs f h)) e
    by_test false h = h

module _ (me p : ProcessId) (n : Node) (last : Lasts (AtLeaf p) (logs_of n)) (k : ℕ) (d : Case) where
  abbrev left : List Record
  left = left_of n k

  abbrev rest : List Record
  rest = drop k n.unforced

  whole : (left ++ rest) ≡ kept n
  whole = append_assoc n.forced (take k n.unforced) (drop k n.unforced)
      ∙ ap (λ l. n.forced ++ l) (take-append-drop k n.unforced)

  holds : (q : Record → Bool) → has q n.forced ≡ true → has q left ≡ true
  holds q e = in_first q n.forced (take k n.unforced) e

  had : (q : Record → Bool) → has q left ≡ true → has q (kept n) ≡ true
  had q e = ap (has q) (sym whole) ∙ in_first q left rest e

  none_kept : has is_coordinators (kept n) ≡ false
  none_kept = by_test (has is_coordinators (kept n)) refl
    where
      by_test : (b : Bool) → has is_coordinators (kept n) ≡ b → has is_coordinators (kept n) ≡ false
      by_test true g =
          not_both is_coordinators (has is_coordinators n.life)
          (last.nested.kept_was_written is_coordinators (λ x. refl) g) last.by_role.no_coordinators_record
      by_test false g = g

  none : has is_coordinators (left ++ rest) ≡ false
  none = ap (has is_coordinators) whole ∙ none_kept

  none_left : has is_coordinators left ≡ false
  none_left = none_in is_coordinators is_coordinators left (kept n) (λ x e. e) (had is_coordinators) none_kept

  order : in_order_from d Unmarked (left ++ rest) ≡ true
  order = ap (in_order_from d Unmarked) whole ∙ last.by_role.in_order d

  no_abort : has (is_abort d) left ≡ false
  no_abort = none_in (is_abort d) is_coordinators left left (abort_is d) (λ e. e) none_left

  abbrev Learnt : List Record → Bool
  Learnt rs = has (is_learnt_abort d) rs || (has (is_abort d) rs && has (is_prepare d) rs)

  learnt : Learnt left ≡ true → has (is_learnt_abort d) left ≡ true
  learnt e = learnt_only (has (is_learnt_abort d) left) (has (is_abort d) left) (has (is_prepare d) left)
      no_abort e

  more_learnt : (xs ys : List Record) → ((q : Record → Bool) → has q xs ≡ true → has q ys ≡ true)
      → Learnt xs ≡ true → Learnt ys ≡ true
  more_learnt xs ys f e =
      more (has (is_learnt_abort d) xs) (has (is_abort d) xs) (has (is_prepare d) xs)
      (has (is_learnt_abort d) ys) (has (is_abort d) ys) (has (is_prepare d) ys)
      (f (is_learnt_abort d)) (f (is_abort d)) (f (is_prepare d)) e

  abbrev front : ChildFront
  front = child_front d left n.durable

  pub tells_left : LastRecordTells d left front
  tells_left = last_tells d left n.durable (order_front d Unmarked left rest order) none_left

  module _ (tree : List TreeProcess) (root outcome above : Bool) (half : ParentHalf) (v : Wire) where
    abbrev r0 : Reading
    r0 = reading_from root true outcome above half
        (child_half (record { me = me; role = AtLeaf p; tree = tree }) n d) v

    abbrev decided : List Record → Bool
    decided rs = has (is_decided d CommittedOutcome) rs

    module _ (common : Common r0) where
      by_front : has (is_heuristic d) left ≡ true → front.heuristic_commits ≡ r0.heuristic_commits
      by_front e =
          ap (λ b. b || decided n.durable)
          (decided_in_front d left rest order none_left e ∙ ap decided whole)

      -- no promise, no decision
      by_none : has (is_promise d) (kept n) ≡ false → front.heuristic_commits ≡ r0.heuristic_commits
      by_none e =
          ap (λ b. b || decided n.durable)
          (none_in (is_decided d CommittedOutcome) (is_heuristic d) left (kept n) (decided_is d)
          (had (is_heuristic d)) undecided
          ∙ sym (none_in (is_decided d CommittedOutcome) (is_heuristic d) (kept n) (kept n) (decided_is d)
          (λ x. x) undecided))
        where
          undecided : has (is_heuristic d) (kept n) ≡ false
          undecided = by_test (has (is_heuristic d) (kept n)) refl
            where
              by_test : (b : Bool) → has (is_heuristic d) (kept n) ≡ b → has (is_heuristic d) (kept n) ≡ false
              by_test true g = not_both (is_promise d) (has (is_promise d) (kept n))
                  (common.heuristic_stands_behind g).0 e
              by_test false g = g

      by_forgot : r0.forgot_ever ≡ true → (b : Bool) → has (is_promise d) (kept n) ≡ b
          → front.heuristic_commits ≡ r0.heuristic_commits
      by_forgot f true e =
          by_front (fronts.forgot_behind d left rest order none
          (holds (is_forgot d) (common.forgot_is_once (common.forgot_stays f e) f)))
      by_forgot f false e = by_none e

      same_decision : (front.heuristic ≡ true) ⊎ (r0.heuristic_ever ≡ true)
          → front.heuristic_commits ≡ r0.heuristic_commits
      same_decision (inl e) = by_front e
      same_decision (inr e) = elim (common.heuristic_stays e) [
        | inl forced ↦ by_front (holds (is_heuristic d) forced)
        | inr forgot ↦ by_forgot forgot (has (is_promise d) (kept n)) refl
      ]

      pub is_front : ChildCrash.IsChildFront front r0
      is_front = record {
        holds_prepared = holds (is_promise d);
        holds_learnt_commit = holds (is_learnt_commit d);
        holds_learnt_abort = more_learnt n.forced left holds;
        holds_heuristic = holds (is_heuristic d);
        holds_forgot = holds (is_forgot d);
        had_prepared = had (is_promise d);
        had_learnt_commit = had (is_learnt_commit d);
        had_learnt_abort = more_learnt left (kept n) had;
        had_heuristic = had (is_heuristic d);
        had_forgot = had (is_forgot d);
        heuristic_behind_prepared = fronts.heuristic_behind d left rest order none;
        commit_behind_prepared = fronts.commit_behind d left rest order none;
        abort_behind_prepared = λ x. fronts.abort_behind d left rest order none (learnt x);
        commit_behind_heuristic = λ x y. fronts.commit_ends d left rest order none x (all_of y);
        abort_behind_heuristic = λ x y. fronts.abort_ends d left rest order none (learnt x) (all_of y);
        forgot_behind_heuristic = fronts.forgot_behind d left rest order none;
        same_decision = same_decision;
      }
        where
          all_of : r0.heuristic_kept ≡ true → has (is_heuristic d) (left ++ rest) ≡ true
          all_of y = ap (has (is_heuristic d)) whole ∙ y

-- The restart, where the device does not fail.

module _ (c : Case) (t : Ticket) (p : ProcessId) (tree : List TreeProcess) (n : Node) (net : List Envelope)
    (last : Lasts (AtLeaf p) (logs_of n)) (k : ℕ) (pr : Presumption) (root outcome above : Bool)
    (half : ParentHalf) where
  abbrev d' : Case
  d' = child_case c.txn t

  abbrev place : Place
  place = record { me = t.child; role = AtLeaf p; tree = tree }

  abbrev before : Reading
  before = reading_from root true outcome above half (child_half place n d') (wire c t net)

  abbrev kept_front : ChildFront
  kept_front = child_front d' (left_of n k) n.durable

  abbrev boot : ℕ
  boot = boot_of (left_of n k) + 1

  same_parts : (x y : ChildHalf) (v w : Wire) → x ≡ y → v ≡ w
      → reading_from root true outcome above half x v ≡ reading_from root true outcome above half y w
  same_parts x y v w e f =
      ap (λ z. reading_from root true outcome above half z v) e
      ∙ ap (λ z. reading_from root true outcome above half y z) f

  pub restart_fits : InvariantOf pr before
      → Fits pr before (reading_from root true outcome above half (child_half place (restarted place n k) d')
      (wire c t (net ++ (restart_effect place n k).messages)))
  restart_fits inv =
      let common = Moves.common_of pr before inv in
      let said = promises before common in
      let fronts = is_front t.child p n last k d' tree root outcome above half (wire c t net) common in
      subst (λ (z : Reading). Fits pr before z)
      (sym (same_parts _ _ _ _ (half_restarts (manager_view place n d').standing t.child p tree n k d')
      (wire-restarts c t t.child p (left_of n k ++ Opened boot ∷ []) net (is_in_doubt kept_front)
      (inquires t.child p d' (left_of n k) n.durable boot (tells_left t.child p n last k d')))
      ∙ reading-restarts root outcome above half (child_half place n d') (wire c t net) kept_front
      said.quiet_open fronts.had_prepared (λ x y. fronts.holds_prepared (said.once x y)) said.asked))
      (FailMoves.restarts pr kept_front before inv fronts)
