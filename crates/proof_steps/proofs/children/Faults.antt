-- Each turn of a manager in which its device fails keeps the invariant of its pairs.
use Rattle.std.proofs.Common.{◌≡◌, ◌∙◌, ◌||◌, ◌&&◌, Bool, true, false, List, refl, sym, ap, subst, arith}
use Rattle.protocol.specs.declared.names.Case.{Case}
use Rattle.protocol.specs.declared.names.ProcessId.{ProcessId}
use Rattle.protocol.specs.declared.names.Ticket.{Ticket}
use Rattle.protocol.specs.declared.names.Presumption.{Presumption}
use Rattle.protocol.specs.declared.records.Record.{Record}
use Rattle.protocol.specs.declared.trees.TreeProcess.{TreeProcess}
use Rattle.protocol.specs.Names.{child_case}
use Rattle.protocol.specs.Records.{has, is_abort, is_prepare, is_heuristic, is_forgot}
use Rattle.protocol.specs.Nodes.{Place, AtLeaf, Node, kept}
use Rattle.protocol.specs.Standings.{Unmarked}
use Rattle.proof_pairs.specs.Reading.{Reading}
use Rattle.proof_pairs.specs.ChildCrash
use Rattle.proof_pairs.specs.ChildCrash.{ChildFront}
use Rattle.proof_pairs.specs.Invariant.{Common}
use Rattle.proof_pairs.specs.readings.ReadingOf.{reading_from, ParentHalf, ChildHalf, Wire, child_half}
use Rattle.protocol.specs.Audits.{is_promise, is_learnt_commit, is_learnt_abort}
use Rattle.proof_pairs.specs.readings.Halves.{failed_half}
use Rattle.proof_pairs.proofs.readings.LeafCrash.{reading-fails, QuietWhileOpen}
use Rattle.proof_pairs.specs.turns.Written.{is_coordinators}
use Rattle.proof_processes.specs.Lasts.{logs_of, Lasts}
use Rattle.proof_processes.specs.Marks.{in_order_from}
use Rattle.proof_processes.specs.WorldHolds.{InvariantOf}
use Rattle.proof_processes.proofs.Tests.{in_first, not_both}
use Rattle.proof_processes.proofs.Worlds.{has_other}
use Rattle.proof_steps.proofs.children.LeafFaults.{front_of}
use Rattle.proof_steps.proofs.children.Fronts
use Rattle.proof_steps.proofs.children.FailMoves
use Rattle.proof_steps.proofs.children.Moves
use Rattle.proof_steps.proofs.children.Moves.{Fits}

more : (a b c a' b' c' : Bool) → (a ≡ true → a' ≡ true) → (b ≡ true → b' ≡ true) → (c ≡ true → c' ≡ true)
    → (a || (b && c)) ≡ true → (a' || (b' && c')) ≡ true
more a b c a' b' c' f g h e = grind arith

learnt_only : (a b c : Bool) → b ≡ false → (a || (b && c)) ≡ true → a ≡ true
learnt_only a b c f e = grind arith

abort_is : (d : Case) (x : Record) → is_abort d x ≡ true → is_coordinators x ≡ true
abort_is d x e = grind arith

-- what a move of failing leaves as it was: what is forced
pub record Unforced (s r : Reading) : Type 0 where
  pub failed : s.child_failed ≡ true
  pub prepared : s.prepared_forced ≡ r.prepared_forced
  pub learnt_commit : s.learnt_commit_forced ≡ r.learnt_commit_forced
  pub learnt_abort : s.learnt_abort_forced ≡ r.learnt_abort_forced
  pub heuristic : s.heuristic_forced ≡ r.heuristic_forced
  pub forgot : s.forgot_forced ≡ r.forgot_forced

module _ (c : Case) (t : Ticket) (p : ProcessId) (tree : List TreeProcess) (n : Node) (v : Wire)
    (pr : Presumption) (root outcome above : Bool) (half : ParentHalf) where
  abbrev d : Case
  d = child_case c.txn t

  abbrev place : Place
  place = record { me = t.child; role = AtLeaf p; tree = tree }

  abbrev k : ChildHalf
  k = child_half place n d

  abbrev R : ChildHalf → Reading
  R x = reading_from root true outcome above half x v

  abbrev r0 : Reading
  r0 = R k

  module _ (inv : InvariantOf pr r0) where
    common : Common r0
    common = Moves.common_of pr r0 inv

    -- The process as the fault left it.

    module _ (n' : Node) (last : Lasts (AtLeaf p) (logs_of n'))
        (holds : (q : Record → Bool) → has q n.forced ≡ true → has q n'.forced ≡ true) where
      abbrev k' : ChildHalf
      k' = child_half place n' d

      abbrev front : Bool → ChildFront
      front o = front_of d o n'.forced

      none : has is_coordinators (kept n') ≡ false
      none = by_test (has is_coordinators (kept n')) refl
        where
          by_test : (b : Bool) → has is_coordinators (kept n') ≡ b → has is_coordinators (kept n') ≡ false
          by_test true g =
              not_both is_coordinators (has is_coordinators n'.life)
              (last.nested.kept_was_written is_coordinators (λ x. refl) g) last.by_role.no_coordinators_record
          by_test false g = g

      no_abort : has (is_abort d) n'.forced ≡ false
      no_abort = by_test (has (is_abort d) n'.forced) refl
        where
          by_test : (b : Bool) → has (is_abort d) n'.forced ≡ b → has (is_abort d) n'.forced ≡ false
          by_test true g =
              not_both is_coordinators (has is_coordinators (kept n'))
              (in_first is_coordinators n'.forced n'.unforced
              (has_other (is_abort d) is_coordinators n'.forced (abort_is d) g)) none
          by_test false g = g

      abbrev Learnt : List Record → Bool
      Learnt rs = has (is_learnt_abort d) rs || (has (is_abort d) rs && has (is_prepare d) rs)

      learnt : Learnt n'.forced ≡ true → has (is_learnt_abort d) n'.forced ≡ true
      learnt e = learnt_only (has (is_learnt_abort d) n'.forced) (has (is_abort d) n'.forced)
          (has (is_prepare d) n'.forced) no_abort e

      more_learnt : (xs ys : List Record)
          → ((q : Record → Bool) → has q xs ≡ true → has q ys ≡ true)
          → Learnt xs ≡ true → Learnt ys ≡ true
      more_learnt xs ys f e =
          more (has (is_learnt_abort d) xs) (has (is_abort d) xs) (has (is_prepare d) xs)
          (has (is_learnt_abort d) ys) (has (is_abort d) ys) (has (is_prepare d) ys)
          (f (is_learnt_abort d)) (f (is_abort d)) (f (is_prepare d)) e

      stays : (q : Record → Bool) → has q n'.forced ≡ true → has q (kept n') ≡ true
      stays q e = in_first q n'.forced n'.unforced e

      module _ (s : Reading) (e : R k' ≡ ChildCrash.hardens_failed_child (front s.heuristic_commits) s) where
        is_front : Unforced s r0 → ChildCrash.IsChildFront (front s.heuristic_commits) s
        is_front u = record {
          holds_prepared = λ x. holds (is_promise d) (sym u.prepared ∙ x);
          holds_learnt_commit = λ x. holds (is_learnt_commit d) (sym u.learnt_commit ∙ x);
          holds_learnt_abort = λ x. more_learnt n.forced n'.forced holds (sym u.learnt_abort ∙ x);
          holds_heuristic = λ x. holds (is_heuristic d) (sym u.heuristic ∙ x);
          holds_forgot = λ x. holds (is_forgot d) (sym u.forgot ∙ x);
          had_prepared = λ x. sym (ap (λ (z : Reading). z.prepared_kept) e) ∙ stays (is_promise d) x;
          had_learnt_commit = λ x. sym (ap (λ (z : Reading). z.learnt_commit_kept) e)
              ∙ stays (is_learnt_commit d) x;
          had_learnt_abort = λ x. sym (ap (λ (z : Reading). z.learnt_abort_kept) e)
              ∙ more_learnt n'.forced (kept n') stays x;
          had_heuristic = λ x. sym (ap (λ (z : Reading). z.heuristic_kept) e) ∙ stays (is_heuristic d) x;
          had_forgot = λ x. sym (ap (λ (z : Reading). z.forgot_kept) e) ∙ stays (is_forgot d) x;
          heuristic_behind_prepared = Fronts.heuristic_behind d n'.forced n'.unforced order none;
          commit_behind_prepared = Fronts.commit_behind d n'.forced n'.unforced order none;
          abort_behind_prepared = λ x. Fronts.abort_behind d n'.forced n'.unforced order none (learnt x);
          commit_behind_heuristic = λ x y. Fronts.commit_ends d n'.forced n'.unforced order none x
              (decided_kept y);
          abort_behind_heuristic = λ x y. Fronts.abort_ends d n'.forced n'.unforced order none (learnt x)
              (decided_kept y);
          forgot_behind_heuristic = Fronts.forgot_behind d n'.forced n'.unforced order none;
          same_decision = λ x. refl;
        }
          where
            order : in_order_from d Unmarked (kept n') ≡ true
            order = last.by_role.in_order d

            decided_kept : s.heuristic_kept ≡ true → has (is_heuristic d) (kept n') ≡ true
            decided_kept y = ap (λ (z : Reading). z.heuristic_kept) e ∙ y

        pub fails_as : Unforced s r0 → Fits pr r0 s → Fits pr r0 (R k')
        fails_as u f =
            let to = front s.heuristic_commits in
            subst (λ (z : Reading). Fits pr r0 z) (sym e)
            (Moves.onward pr r0 s (ChildCrash.hardens_failed_child to s) f
            (FailMoves.hardens_failed pr to s f.invariant
            (record { failed = u.failed; front_of = is_front u })))

      -- nothing was appended of the branch
      pub fails_quietly : n.failed ≡ false → k' ≡ failed_half (front k.heuristic_commits) k
          → Fits pr r0 (R k')
      fails_quietly up e =
          fails_as (ChildCrash.child_fails r0)
          (ap (λ (z : ChildHalf). R z) e
          ∙ reading-fails root outcome above half k v (front k.heuristic_commits) quiet
          (λ x. sym (ap (λ (z : ChildHalf). z.prepared_kept) e) ∙ stays (is_promise d) x))
          (record {
            failed = refl;
            prepared = refl;
            learnt_commit = refl;
            learnt_abort = refl;
            heuristic = refl;
            forgot = refl;
          })
          (FailMoves.child_fails pr r0 inv (record { up = up }))
        where
          quiet : QuietWhileOpen k.is_open v.issued k.prepared_kept k.prepared_ever v.read
          quiet x = let w = common.not_voted x in (w.no_prepared.0, w.no_prepared.1, w.said_nothing.0)
