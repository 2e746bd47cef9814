-- A fault of a cascaded coordinator's device keeps the invariant of its pairs: a move of failing, then one of
-- the front.
use Rattle.std.proofs.Common.{◌≡◌, ◌∙◌, ◌⊎◌, inl, inr, ◌&&◌, Bool, true, false, [], refl, sym, ap, subst, arith}
use Rattle.protocol.specs.declared.names.Case.{Case}
use Rattle.protocol.specs.declared.names.Presumption.{Presumption}
use Rattle.protocol.specs.declared.records.Record.{Record}
use Rattle.protocol.specs.Records.{has, is_abort, is_commit, is_prepare}
use Rattle.protocol.specs.Nodes.{Node, kept}
use Rattle.proof_pairs.specs.ChildCrash
use Rattle.proof_pairs.specs.Invariant.{Common}
use Rattle.proof_pairs.specs.Reading.{Reading}
use Rattle.proof_pairs.specs.readings.ReadingOf.{ParentHalf, Wire, reading_from}
use Rattle.proof_pairs.proofs.readings.LeafCrash.{QuietWhileOpen}
use Rattle.proof_processes.specs.WorldHolds.{InvariantOf}
use Rattle.proof_processes.proofs.CaseFronts.{commit_behind_promise}
use Rattle.proof_processes.proofs.CaseOrders.{AllFit}
use Rattle.proof_processes.proofs.Tests.{in_first}
use Rattle.proof_steps.proofs.children.FailMoves
use Rattle.proof_steps.proofs.children.Moves
use Rattle.proof_steps.proofs.children.Moves.{Fits}
use Rattle.proof_steps.proofs.cascades.Fails.{OwnFront, as_front, failed_own, front_of, reading-fails}
use Rattle.proof_steps.proofs.cascades.Halves.{OwnHalf, as_child, own_half_at}

both_more : (a b c d : Bool) → (a ≡ true → c ≡ true) → (b ≡ true → d ≡ true) → (a && b) ≡ true → (c && d)
    ≡ true
both_more a b c d f g e = grind arith

second : (a b : Bool) → (a && b) ≡ true → b ≡ true
second a b e = grind arith

-- what a move of failing leaves as it was: what is forced, and that no operator decided
pub record Unforced (s r : Reading) : Type 0 where
  pub failed : s.child_failed ≡ true
  pub prepared : s.prepared_forced ≡ r.prepared_forced
  pub learnt_commit : s.learnt_commit_forced ≡ r.learnt_commit_forced
  pub learnt_abort : s.learnt_abort_forced ≡ r.learnt_abort_forced
  pub no_heuristic : s.heuristic_forced ≡ false
  pub never_heuristic : s.heuristic_ever ≡ false
  pub no_forgot : s.forgot_forced ≡ false

module _ (d : Case) (n : Node) (v : Wire) (pr : Presumption) (root outcome above : Bool) (half : ParentHalf)
    (o : Bool) where
  abbrev q : OwnHalf
  q = own_half_at o n d

  abbrev R : OwnHalf → Reading
  R x = reading_from root false outcome above half (as_child x) v

  abbrev r0 : Reading
  r0 = R q

  module _ (inv : InvariantOf pr r0) where
    common : Common r0
    common = Moves.common_of pr r0 inv

    -- The process as the fault left it.

    module _ (n' : Node) (fit : AllFit [] (kept n'))
        (holds : (x : Record → Bool) → has x n.forced ≡ true → has x n'.forced ≡ true) where
      abbrev q' : OwnHalf
      q' = own_half_at false n' d

      abbrev front : OwnFront
      front = front_of d n'.forced

      stays : (x : Record → Bool) → has x n'.forced ≡ true → has x (kept n') ≡ true
      stays x e = in_first x n'.forced n'.unforced e

      module _ (s : Reading) (e : R q' ≡ ChildCrash.hardens_failed_child (as_front front) s)
          (f : Fits pr r0 s) where
        promised_before : has (is_commit d) n'.forced ≡ true → has (is_prepare d) n'.forced ≡ true
        promised_before x =
            commit_behind_promise d n'.forced n'.unforced fit x
            (ap (λ (z : Reading). z.prepared_kept) e
            ∙ ((Moves.common_of pr s f.invariant).learnt_commit_stands_behind
            (sym (ap (λ (z : Reading). z.learnt_commit_kept) e) ∙ stays (is_commit d) x)).0)

        no_decision : {A : Type 0} → s.heuristic_kept ≡ true → A
        no_decision x = absurd (let y = ap (λ (z : Reading). z.heuristic_kept) e ∙ x in cc)

        same_decision : (u : Unforced s r0) → ((as_front (front_of d n'.forced)).heuristic ≡ true)
            ⊎ (s.heuristic_ever ≡ true)
            → (as_front (front_of d n'.forced)).heuristic_commits ≡ s.heuristic_commits
        same_decision u (inl x) = absurd (cc)
        same_decision u (inr x) = absurd (let y = sym u.never_heuristic ∙ x in cc)

        is_front : Unforced s r0 → ChildCrash.IsChildFront (as_front (front_of d n'.forced)) s
        is_front u = record {
          holds_prepared = λ x. holds (is_prepare d) (sym u.prepared ∙ x);
          holds_learnt_commit = λ x. holds (is_commit d) (sym u.learnt_commit ∙ x);
          holds_learnt_abort = λ x. both_more (has (is_abort d) n.forced) (has (is_prepare d) n.forced)
              (has (is_abort d) n'.forced) (has (is_prepare d) n'.forced) (holds (is_abort d))
              (holds (is_prepare d))
              (sym u.learnt_abort ∙ x);
          holds_heuristic = λ x. absurd (let y = sym u.no_heuristic ∙ x in cc);
          holds_forgot = λ x. absurd (let y = sym u.no_forgot ∙ x in cc);
          had_prepared = λ x. sym (ap (λ (z : Reading). z.prepared_kept) e) ∙ stays (is_prepare d) x;
          had_learnt_commit = λ x. sym (ap (λ (z : Reading). z.learnt_commit_kept) e) ∙ stays (is_commit d) x;
          had_learnt_abort = λ x. sym (ap (λ (z : Reading). z.learnt_abort_kept) e)
              ∙ both_more (has (is_abort d) n'.forced) (has (is_prepare d) n'.forced)
              (has (is_abort d) (kept n')) (has (is_prepare d) (kept n')) (stays (is_abort d))
              (stays (is_prepare d)) x;
          had_heuristic = λ x. absurd (cc);
          had_forgot = λ x. absurd (cc);
          heuristic_behind_prepared = λ x. absurd (cc);
          commit_behind_prepared = promised_before;
          abort_behind_prepared = λ x. second (has (is_abort d) n'.forced) (has (is_prepare d) n'.forced) x;
          commit_behind_heuristic = λ x y. no_decision y;
          abort_behind_heuristic = λ x y. no_decision y;
          forgot_behind_heuristic = λ x. absurd (cc);
          same_decision = same_decision u;
        }

        pub fails_as : Unforced s r0 → Fits pr r0 (R q')
        fails_as u =
            let to = as_front front in
            subst (λ (z : Reading). Fits pr r0 z) (sym e)
            (Moves.onward pr r0 s (ChildCrash.hardens_failed_child to s) f
            (FailMoves.hardens_failed pr to s f.invariant
            (record { failed = u.failed; front_of = is_front u })))

      pub quiet_open : QuietWhileOpen q.is_open v.issued q.prepare_kept q.prepare_ever v.read
      quiet_open x = let w = common.not_voted x in (w.no_prepared.0, w.no_prepared.1, w.said_nothing.0)

      -- nothing was appended of the case
      pub fails_quietly : n.failed ≡ false → q' ≡ failed_own front q → Fits pr r0 (R q')
      fails_quietly up e =
          fails_as (ChildCrash.child_fails r0)
          (ap (λ (z : OwnHalf). R z) e
          ∙ reading-fails root outcome above half q v front quiet_open
          (λ x. sym (ap (λ (z : OwnHalf). z.prepare_kept) e) ∙ stays (is_prepare d) x))
          (FailMoves.child_fails pr r0 inv (record { up = up }))
          (record {
            failed = refl;
            prepared = refl;
            learnt_commit = refl;
            learnt_abort = refl;
            no_heuristic = refl;
            never_heuristic = refl;
            no_forgot = refl;
          })
