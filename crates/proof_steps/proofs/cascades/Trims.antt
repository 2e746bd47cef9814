-- A trim of a cascaded coordinator's log keeps the invariant of its pairs.
use Rattle.std.proofs.Common.{◌≡◌, ◌∙◌, ◌⊎◌, inl, inr, ◌||◌, ◌&&◌, ℕ, zero, suc, Bool, true, false, Some, List, [], refl, sym, ap, subst, arith}
use Rattle.protocol.specs.declared.names.Case.{Case}
use Rattle.protocol.specs.declared.names.Presumption.{Presumption}
use Rattle.protocol.specs.declared.names.ProcessId.{ProcessId}
use Rattle.protocol.specs.declared.records.Record.{Record}
use Rattle.protocol.specs.declared.standings.Standing.{Standing}
use Rattle.protocol.specs.declared.standings.Standing.TheVariants.{Unknown, Active, Collecting, Prepared, Committing, Aborting, Heuristic}
use Rattle.protocol.specs.declared.trees.TreeProcess.{TreeProcess}
use Rattle.protocol.specs.Records.{has, is_abort, is_collecting, is_commit, is_end, is_prepare, none_of, owing_by, is_reported}
use Rattle.protocol.specs.Memory.{Idle, memory_of}
use Rattle.protocol.specs.Nodes.{Below, Node, Place, kept}
use Rattle.protocol.specs.Restarts.{case_stays, is_known, recorded_view, trim_fails, trimmed, trims}
use Rattle.protocol.specs.Standings.{coordinator_view, phase_standing}
use Rattle.protocol.specs.Views.{IsOpenAlike}
use Rattle.proof_pairs.specs.ChildMoves
use Rattle.proof_pairs.specs.Reading.{Reading, is_live}
use Rattle.proof_pairs.specs.Standing.{IsForgotten}
use Rattle.proof_pairs.specs.readings.ReadingOf.{ParentHalf, Wire, phase_by, reading_from}
use Rattle.proof_pairs.proofs.readings.Lists.{has-nil}
use Rattle.proof_processes.specs.WorldHolds.{InvariantOf}
use Rattle.proof_processes.proofs.Boots.{trims_memory}
use Rattle.proof_processes.proofs.Cases.{viewed}
use Rattle.proof_processes.proofs.CaseOrders.{AllFit}
use Rattle.proof_processes.proofs.Phases.{active_unrecorded, collecting_undecided}
use Rattle.proof_processes.proofs.RootLogs.{recorded_stands}
use Rattle.proof_processes.proofs.Tests.{first_false, has-append}
use Rattle.proof_steps.proofs.children.Moves
use Rattle.proof_steps.proofs.children.Moves.{Fits}
use Rattle.proof_steps.proofs.cascades.Ends.{EndsDecided}
use Rattle.proof_steps.proofs.cascades.Faults
use Rattle.proof_steps.proofs.cascades.Fails.{own_breaks}
use Rattle.proof_steps.proofs.cascades.Halves.{OwnHalf, as_child, hardens, own_half_at}
use Rattle.proof_steps.proofs.cascades.Opens.{open_by_phase, live}
use Rattle.proof_steps.proofs.cascades.Readings
use Rattle.proof_steps.proofs.cascades.Standings.{IsOver, unknown_by}
use Rattle.proof_steps.proofs.cascades.Trimmed.{of_abort, of_commit, of_prepare, trimmed_has}
use Rattle.proof_steps.proofs.cascades.Turns.{opens}

and-false : (a : Bool) → (a && false) ≡ false
and-false a = grind arith

both_true : (a b : Bool) → a ≡ true → b ≡ true → (a && b) ≡ true
both_true a b e f = grind arith

unknown_if : (s : Standing) → is_known s ≡ false → s ≡ Unknown
unknown_if Unknown e = refl
unknown_if Active e = absurd (cc)
unknown_if Collecting e = absurd (cc)
unknown_if Prepared e = absurd (cc)
unknown_if Committing e = absurd (cc)
unknown_if Aborting e = absurd (cc)
unknown_if Heuristic e = absurd (cc)

-- what a trim leaves of a half: all or nothing, forced
abbrev trimmed_own : Bool → OwnHalf → OwnHalf
trimmed_own stays q = record q {
  prepare_kept = stays && q.prepare_kept;
  prepare_forced = stays && q.prepare_kept;
  prepare_ever = (stays && q.prepare_kept) || q.prepare_ever;
  commit_kept = stays && q.commit_kept;
  commit_forced = stays && q.commit_kept;
  abort_kept = stays && q.abort_kept;
  abort_forced = stays && q.abort_kept;
}

reading-trimmed : (root outcome above : Bool) (p : ParentHalf) (q : OwnHalf) (v : Wire)
    → (q.prepare_kept || q.prepare_ever) ≡ q.prepare_ever
    → reading_from root false outcome above p (as_child (trimmed_own false q)) v
    ≡ ChildMoves.trims_child (reading_from root false outcome above p (as_child q) v)
reading-trimmed root outcome above p q v e = rw e refl

module _ (me p : ProcessId) (tree : List TreeProcess) (n : Node) (d : Case) (v : Wire) (up : n.failed ≡ false)
    (alike : IsOpenAlike (record { me = me; role = Below p; tree = tree }) n d)
    (ends : EndsDecided (kept n)) (pr : Presumption) (root outcome above : Bool) (half : ParentHalf) where
  abbrev place : Place
  place = record { me = me; role = Below p; tree = tree }

  abbrev q : OwnHalf
  q = own_half_at (opens place n d) n d

  abbrev R : OwnHalf → Reading
  R x = reading_from root false outcome above half (as_child x) v

  abbrev r0 : Reading
  r0 = R q

  abbrev rs : List Record
  rs = kept n

  abbrev K : Bool
  K = case_stays rs (Some d)

  half_trimmed : (o : Bool) → o ≡ opens place n d
      → own_half_at o (trims place n) d ≡ trimmed_own K q
  half_trimmed o same =
      rw (same)
      (simp (
        has-nil,
        has-append (is_prepare d) (trimmed (Below p) rs) n.durable,
        trimmed_has p d (is_prepare d) (of_prepare d) rs (λ k. refl),
        trimmed_has p d (is_commit d) (of_commit d) rs (λ k. refl),
        trimmed_has p d (is_abort d) (of_abort d) rs (λ k. refl),
      ))

  still_open : IsOpenAlike place (trims place n) d → opens place (trims place n) d ≡ opens place n d
  still_open then_alike =
      open_by_phase place (trims place n) d up then_alike
      ∙ (ap (λ m. live m) (ap (λ m. m.phase) (trims_memory place n d))
      ∙ sym (open_by_phase place n d up alike))

  abbrev KnownThen : Type 0
  KnownThen = IsOpenAlike place (trims place n) d

  -- all records of the case stay, forced
  keeps_all : Fits pr r0 (ChildMoves.hardens_child r0) → (x : OwnHalf) → x ≡ hardens q → Fits pr r0 (R x)
  keeps_all f x e =
      subst (λ (z : OwnHalf). Fits pr r0 (R z)) (sym e)
      (subst (λ (z : Reading). Fits pr r0 z) (sym (Readings.reading-hardened root outcome above half q v)) f)

  -- an open case has no record of a promise or a decision
  record Unpromised : Type 0 where
    no_prepare : q.prepare_kept ≡ false
    no_commit : q.commit_kept ≡ false
    no_abort : q.abort_kept ≡ false

  open_none : (s : Standing) → (coordinator_view place n d).standing ≡ s → is_live (phase_by false s) ≡ true
      → Unpromised
  open_none Active e f =
      let u = active_unrecorded rs d (memory_of place n d).phase (sym (viewed place n d) ∙ e) in
      record { no_prepare = u.no_prepare; no_commit = u.no_commit; no_abort = u.no_abort }
  open_none Collecting e f =
      let u = collecting_undecided rs d (memory_of place n d).phase (sym (viewed place n d) ∙ e) in
      record { no_prepare = u.no_prepare; no_commit = u.no_commit; no_abort = u.no_abort }
  open_none Unknown e f = absurd (cc)
  open_none Prepared e f = absurd (cc)
  open_none Committing e f = absurd (cc)
  open_none Aborting e f = absurd (cc)
  open_none Heuristic e f = absurd (cc)

  none_hardens : Unpromised → trimmed_own false q ≡ hardens q
  none_hardens u = rw (u.no_prepare, u.no_commit, u.no_abort) refl

  decided : has (is_prepare d) (kept n) ≡ true → EndsDecided (kept n) → IsOver (has (is_end d) (kept n))
      (has (is_commit d) (kept n)) (has (is_abort d) (kept n)) (has (is_prepare d) (kept n))
      → (r0.learnt_commit_kept ≡ true) ⊎ (r0.learnt_abort_kept ≡ true)
  decided e h (inl f) = elim (h d f e) [
    | inl x ↦ inl x
    | inr x ↦ inr (both_true (has (is_abort d) (kept n)) (has (is_prepare d) (kept n)) x e)
  ]
  decided e h (inr (inl f)) = inl f
  decided e h (inr (inr (inl f))) = inr (both_true (has (is_abort d) (kept n))
      (has (is_prepare d) (kept n)) f e)
  decided e h (inr (inr (inr f))) = absurd (let g = sym e ∙ f in cc)

  nothing_left : (x : Bool) → has (is_prepare d) (kept n) ≡ x → IsOver (has (is_end d) (kept n))
      (has (is_commit d) (kept n)) (has (is_abort d) (kept n)) (has (is_prepare d) (kept n))
      → (r0.prepared_kept ≡ false) ⊎ ((r0.forgot_kept ≡ true) ⊎ ((r0.heuristic_kept ≡ false)
      × ((r0.learnt_commit_kept ≡ true) ⊎ (r0.learnt_abort_kept ≡ true))))
  nothing_left false e o = inl e
  nothing_left true e o = inr (inr (refl, decided e ends o))

  module _ (inv : InvariantOf pr r0) where
    hard : Fits pr r0 (ChildMoves.hardens_child r0)
    hard = Moves.hardens pr r0 inv up

    ever : (q.prepare_kept || q.prepare_ever) ≡ q.prepare_ever
    ever =
        absorbed q.prepare_kept q.prepare_ever
        (λ x. let c = Moves.common_of pr r0 inv in
        (c.child_forced_promise (c.child_promise_is_forced x up)).1)
      where
        absorbed : (a b : Bool) → (a ≡ true → b ≡ true) → (a || b) ≡ b
        absorbed a b f = grind arith

    over : K ≡ false → IsOver (has (is_end d) (kept n)) (has (is_commit d) (kept n))
        (has (is_abort d) (kept n))
        (has (is_prepare d) (kept n))
    over e =
        unknown_by (has (is_end d) rs) (has (is_commit d) rs) (has (is_abort d) rs) (has (is_prepare d) rs)
        (has (is_collecting d) rs) (none_of (owing_by d rs)) (phase_standing d.txn.presumption Idle)
        (sym (recorded_stands d rs) ∙ unknown_if (recorded_view rs d).standing
        (first_false (is_known (recorded_view rs d).standing) (is_reported rs d) e))

    forgets_it : K ≡ false → q.is_open ≡ false → IsForgotten r0
    forgets_it e f = record {
      closed = rw f (and-false v.issued);
      nothing = nothing_left (has (is_prepare d) (kept n)) refl (over e);
    }

    -- by whether its records stay, and whether it is open
    by_stay : (k o : Bool) → K ≡ k → q.is_open ≡ o → Fits pr r0 (R (trimmed_own K q))
    by_stay true o e f = keeps_all hard (trimmed_own K q) (ap (λ x. trimmed_own x q) e)
    by_stay false true e f =
        keeps_all hard (trimmed_own K q)
        (ap (λ x. trimmed_own x q) e
        ∙ none_hardens (open_none (coordinator_view place n d).standing refl
        (sym (ap (λ x. is_live (phase_by x (coordinator_view place n d).standing)) up) ∙ f)))
    by_stay false false e f =
        subst (λ (z : Reading). Fits pr r0 z)
        (sym (ap (λ x. R (trimmed_own x q)) e ∙ reading-trimmed root outcome above half q v ever))
        (Moves.trims_child pr r0 inv (record { up = up; forgotten = forgets_it e f }))

    pub trim_fits : IsOpenAlike place (trims place n) d
        → Fits pr r0 (R (own_half_at (opens place (trims place n) d) (trims place n) d))
    trim_fits a =
        subst (λ (z : OwnHalf). Fits pr r0 (R z))
        (sym (half_trimmed (opens place (trims place n) d) (still_open a)))
        (by_stay K q.is_open refl refl)

    -- The device fails in it: the old log is left, or the new one.

    old_log : AllFit [] (kept n) → Fits pr r0 (R (own_half_at false (record n { failed = true }) d))
    old_log fit =
        Faults.fails_quietly d n v pr root outcome above half (opens place n d) inv
        (record n { failed = true }) fit
        (λ x e. e) up
        (own_breaks (opens place n d) n d (λ x. ((Moves.common_of pr r0 inv).child_forced_promise x).1))

    pub breaks_quietly : AllFit [] (kept n) → Fits pr r0
        (R (own_half_at false (record n { failed = true }) d))
    breaks_quietly = old_log

    new_log : AllFit [] (kept (record (trims place n) { failed = true }))
        → Fits pr r0 (R (own_half_at false (record (trims place n) { failed = true }) d))
    new_log fit =
        let same = half_trimmed (opens place n d) refl in
        let first = subst (λ (z : OwnHalf). Fits pr r0 (R z)) (sym same) (by_stay K q.is_open refl refl) in
        let then_inv = first.invariant in
        Moves.onward pr r0 (R (own_half_at (opens place n d) (trims place n) d))
        (R (own_half_at false (record (trims place n) { failed = true }) d)) first
        (Faults.fails_quietly d (trims place n) v pr root outcome above half (opens place n d) then_inv
        (record (trims place n) { failed = true }) fit (λ x e. e) up
        (own_breaks (opens place n d) (trims place n) d
        (λ x. ((Moves.common_of pr (R (own_half_at (opens place n d)
        (trims place n) d)) then_inv).child_forced_promise
        x).1)))

    pub trim_breaks : (a : ℕ) → AllFit [] (kept (trim_fails place n a))
        → Fits pr r0 (R (own_half_at false (trim_fails place n a) d))
    trim_breaks zero fit = old_log fit
    trim_breaks (suc a) fit = new_log fit
