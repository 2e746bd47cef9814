-- A coordinator's trim, also one in which its device fails, keeps the invariant of each pair below it.
use Rattle.std.proofs.Common.{◌≡◌, ◌∙◌, ◌||◌, ◌⊎◌, inl, inr, Bool, true, false, Some, [], refl, sym, ap, subst, arith}
use Rattle.protocol.specs.declared.names.Case.{Case}
use Rattle.protocol.specs.declared.names.Presumption.{Presumption}
use Rattle.protocol.specs.declared.names.Presumption.TheVariants.{PresumeAbort, PresumeCommit}
use Rattle.protocol.specs.declared.names.Ticket.{Ticket}
use Rattle.protocol.specs.declared.records.Record.{Record}
use Rattle.protocol.specs.declared.standings.Standing.{Standing}
use Rattle.protocol.specs.Records.{has, none_of, owing_by, is_reported, is_collecting, is_prepare, is_commit, is_abort}
use Rattle.protocol.specs.Nodes.{AtRoot, Node, Place, kept}
use Rattle.protocol.specs.Memory.{Memory}
use Rattle.protocol.specs.Restarts.{case_stays, data_records, is_known, recorded_view, trimmed, trims}
use Rattle.proof_pairs.specs.Reading.{Reading, Closed, is_live}
use Rattle.proof_pairs.specs.Invariant.{Common}
use Rattle.proof_pairs.specs.ParentMoves
use Rattle.proof_pairs.specs.readings.Halves.{hardened_parent, trimmed_parent}
use Rattle.proof_pairs.specs.readings.ReadingOf.{ParentHalf, ChildHalf, Wire, reading_from, parent_half_at, phase_by, is_dead}
use Rattle.protocol.specs.Audits.{is_collecting_naming, is_prepare_naming, is_decision_naming}
use Rattle.proof_pairs.proofs.readings.Lists.{has-nil}
use Rattle.proof_pairs.proofs.readings.Trimmed.{Gone, gone}
use Rattle.proof_processes.specs.WorldHolds.{InvariantOf, NamesBy}
use Rattle.proof_processes.proofs.Tests.{first_false, has-append, not_both}
use Rattle.proof_processes.proofs.Worlds.{has_other}
use Rattle.proof_processes.proofs.CaseFronts.{either_has}
use Rattle.proof_steps.proofs.children.Moves.{Fits, common_of}
use Rattle.proof_steps.proofs.crashes.Moves
use Rattle.proof_steps.proofs.crashes.Named.{owing-by, somebody}
use Rattle.proof_steps.proofs.crashes.Trimmed.{Stays, all_stay, none_stays, Forgets, forgets, ended, committed, aborted, nothing}

-- Halves.

or-false : (a : Bool) → (a || false) ≡ a
or-false a = grind arith

half_keeps : (s s' : Standing) (m : Memory) (place : Place) (n : Node) (c : Case) (t : Ticket)
    → trimmed place.role (kept n) ≡ trimmed AtRoot (kept n) → data_records place.role (kept n) ≡ []
    → phase_by n.failed s' ≡ phase_by n.failed s → Stays c t (kept n)
    → parent_half_at s' m (trims place n) c t ≡ hardened_parent (parent_half_at s m n c t)
half_keeps s s' m place n c t log pairs same g =
    rw (log, pairs, same)
    (simp (
      has-nil,
      has-append (is_prepare c) (trimmed AtRoot (kept n)) n.durable,
      g.collecting,
      g.promise,
      g.commit,
      g.abort,
      g.end,
      g.collects,
      g.names_it,
      g.owes,
    ))

half_clears : (s s' : Standing) (m : Memory) (place : Place) (n : Node) (c : Case) (t : Ticket)
    → trimmed place.role (kept n) ≡ trimmed AtRoot (kept n) → data_records place.role (kept n) ≡ []
    → phase_by n.failed s' ≡ phase_by n.failed s → Gone c t (trimmed AtRoot (kept n))
    → parent_half_at s' m (trims place n) c t ≡ trimmed_parent (parent_half_at s m n c t)
half_clears s s' m place n c t log pairs same g =
    rw (log, pairs, same)
    (simp (
      has-nil,
      has-append (is_prepare c) (trimmed AtRoot (kept n)) n.durable,
      g.collecting,
      g.promise,
      g.commit,
      g.abort,
      g.end,
      g.collects,
      g.names_it,
      g.owes,
    ))

-- Readings.

or-twice : (a b : Bool) → (a || (a || b)) ≡ (a || b)
or-twice a b = grind arith

kept_ever : (a b : Bool) → (a ≡ true → b ≡ true) → b ≡ (a || b)
kept_ever a b f = grind arith

module _ (manager outcome above : Bool) (p : ParentHalf) (k : ChildHalf) (v : Wire) where
  hardened_root : reading_from true manager (p.commit_kept || outcome) above (hardened_parent p) k v
      ≡ ParentMoves.hardens_parent (reading_from true manager outcome above p k v)
  hardened_root = rw (or-twice p.commit_kept outcome) refl

  hardened_below : reading_from false manager outcome above (hardened_parent p) k v
      ≡ ParentMoves.hardens_parent (reading_from false manager outcome above p k v)
  hardened_below = rw (or-twice p.own_prepare_kept p.own_prepare_ever) refl

  cleared_root : (p.commit_kept ≡ true → outcome ≡ true)
      → reading_from true manager outcome above (trimmed_parent p) k v
      ≡ ParentMoves.trims_parent (reading_from true manager outcome above p k v)
  cleared_root f = rw (sym (kept_ever p.commit_kept outcome f)) refl

  cleared_below : (p.own_prepare_kept ≡ true → p.own_prepare_ever ≡ true)
      → reading_from false manager outcome above (trimmed_parent p) k v
      ≡ ParentMoves.trims_parent (reading_from false manager outcome above p k v)
  cleared_below f = rw (sym (kept_ever p.own_prepare_kept p.own_prepare_ever f)) refl

-- The device fails, and nothing else changes.

abbrev pub fallen : ParentHalf → ParentHalf
fallen p = record p { failed = true; phase = Closed }

falls-root : (x li be : Bool) → (li ≡ true → (be ≡ true) × (x ≡ false))
    → is_dead x false be false ≡ (li || is_dead x li be false)
unfolding is_dead
falls-root x li be f = grind arith

falls-below : (ob x li gi rd : Bool) → (li ≡ true → (gi ≡ true) × ((rd ≡ false) × (x ≡ false)))
    → (ob || is_dead x false gi rd) ≡ (li || (ob || is_dead x li gi rd))
unfolding is_dead
falls-below ob x li gi rd f = grind arith

neither-so : (a b : Bool) → a ≡ false → b ≡ false → (a || b) ≡ false
neither-so a b e f = grind arith

module _ (pr : Presumption) (manager outcome above : Bool) (p : ParentHalf) (k : ChildHalf) (v : Wire) where
  abbrev root_reading : Reading
  root_reading = reading_from true manager outcome above p k v

  abbrev below_reading : Reading
  below_reading = reading_from false manager outcome above p k v

  live_root : (r : Reading) → r.parent_is_root ≡ true → Common r → is_live r.phase ≡ true
      → (r.born ≡ true) × ((r.commit_kept ≡ false) × (r.outcome ≡ false))
  live_root r root h e = grind (arith, root, e, h.unborn, h.undecided)

  live_below : (r : Reading) → Common r → is_live r.phase ≡ true
      → (r.born ≡ true) × ((r.read_up ≡ false)
      × ((r.own_prepare_kept ≡ false) × (r.own_prepare_ever ≡ false)))
  live_below r h e = grind (arith, e, h.unborn, h.undecided)

  pub root_falls : InvariantOf pr root_reading → p.failed ≡ false
      → Fits pr root_reading (reading_from true manager outcome above (fallen p) k v)
  root_falls inv up =
      subst (λ (z : Reading). Fits pr root_reading z)
      (rw (sym (falls-root (p.commit_kept || outcome) (is_live p.phase) p.begun
      (λ e. let f = live_root root_reading refl (common_of pr root_reading inv) e in
      (f.0, neither-so p.commit_kept outcome f.1.0 f.1.1)))) refl)
      (Moves.fails pr root_reading inv up)

  pub below_falls : InvariantOf pr below_reading → p.failed ≡ false
      → Fits pr below_reading (reading_from false manager outcome above (fallen p) k v)
  below_falls inv up =
      subst (λ (z : Reading). Fits pr below_reading z)
      (rw (sym (falls-below p.obeyed_abort (p.own_prepare_kept || p.own_prepare_ever) (is_live p.phase)
      v.given v.read_up
      (λ e. let f = live_below below_reading (common_of pr below_reading inv) e in
      (f.0, (f.1.0, neither-so p.own_prepare_kept p.own_prepare_ever f.1.1.0 f.1.1.1))))) refl)
      (Moves.fails pr below_reading inv up)

-- The trim.

module _ (pr : Presumption) (manager outcome above : Bool) (k : ChildHalf) (v : Wire) (place : Place)
    (n : Node)
    (c : Case) (t : Ticket) (s s' : Standing) (m : Memory)
    (log : trimmed place.role (kept n) ≡ trimmed AtRoot (kept n))
    (pairs : data_records place.role (kept n) ≡ [])
    (same : phase_by n.failed s' ≡ phase_by n.failed s)
    (names : NamesBy pr c (kept n)) (up : n.failed ≡ false)
  where
    abbrev p : ParentHalf
    p = parent_half_at s m n c t

    abbrev p' : ParentHalf
    p' = parent_half_at s' m (trims place n) c t

    ends : {A : Type 0} → true ≡ false → A
    ends x = absurd (cc)

    not_owed : none_of (owing_by c (kept n)) ≡ true → has (is_decision_naming c t) (kept n) ≡ false
    not_owed e = by_test (has (is_decision_naming c t) (kept n)) refl
      where
        by_test : (b : Bool) → has (is_decision_naming c t) (kept n) ≡ b
            → has (is_decision_naming c t) (kept n) ≡ false
        by_test true f = ends (sym e ∙ somebody (owing_by c (kept n)) t (owing-by c t (kept n) ∙ f))
        by_test false f = f

    unless : (q r : Record → Bool) → ((x : Record) → q x ≡ true → r x ≡ true) → has r (kept n) ≡ false
        → has q (kept n) ≡ false
    unless q r f e = by_test (has q (kept n)) refl
      where
        by_test : (b : Bool) → has q (kept n) ≡ b → has q (kept n) ≡ false
        by_test true g = not_both q (has r (kept n)) (has_other q r (kept n) f g) e
        by_test false g = g

    may_trim : (root : Bool) → (q : Presumption) → pr ≡ q
        → is_live p.phase ≡ false → Forgets c t (kept n)
        → Moves.MayTrim q (reading_from root manager outcome above p k v)
    may_trim root PresumeAbort e closed (ended f) = record { up = up; closed = closed; nothing = inl f }
    may_trim root PresumeAbort e closed (committed f g) =
        ends (sym g ∙ (subst (λ x. NamesBy x c (kept n)) e names).0 f)
    may_trim root PresumeAbort e closed (aborted f g h) = record
        { up = up; closed = closed; nothing = inr (inl f) }
    may_trim root PresumeAbort e closed (nothing f g h i) =
        record { up = up; closed = closed; nothing = inr (inr (f, h)) }
    may_trim root PresumeCommit e closed (ended f) = record { up = up; closed = closed; nothing = inl f }
    may_trim root PresumeCommit e closed (committed f g) =
        record { up = up; closed = closed; nothing = inr (inl f) }
    may_trim root PresumeCommit e closed (aborted f g h) =
        record { up = up; closed = closed; nothing = inr (inr (inl (f, not_owed h))) }
    may_trim root PresumeCommit e closed (nothing f g h i) =
        record { up = up; closed = closed; nothing = inr (inr (inr i)) }

    -- a case that can still be decided has none of these
    module _ (root : Bool) (inv : InvariantOf pr (reading_from root manager outcome above p k v)) where
      abbrev r0 : Reading
      r0 = reading_from root manager outcome above p k v

      common : Common r0
      common = common_of pr r0 inv

      none_live : is_live p.phase ≡ true → Forgets c t (kept n) → Gone c t (kept n)
      none_live e (ended f) = ends (sym f ∙ (common.undecided e).no_end)
      none_live e (committed f g) = ends (sym f ∙ (common.undecided e).no_commit)
      none_live e (aborted f g h) = ends (sym f ∙ (common.undecided e).no_abort)
      none_live e (nothing f g h i) = record {
        collecting = i;
        promise = h;
        commit = f;
        abort = g;
        end = (common.undecided e).no_end;
        collects = unless (is_collecting_naming c t) (is_collecting c) (λ x y. grind arith) i;
        names_it = unless (is_prepare_naming c t) (is_prepare c) (λ x y. grind arith) h;
        owes = unless (is_decision_naming c t) (λ x. is_commit c x || is_abort c x) (λ x y. grind arith)
            (both f g);
      }
        where
          both : has (is_commit c) (kept n) ≡ false → has (is_abort c) (kept n) ≡ false
              → has (λ x. is_commit c x || is_abort c x) (kept n) ≡ false
          both f g = either_has (is_commit c) (is_abort c) (kept n) ∙ neither-so _ _ f g

      -- either all of the case's records stay, or none does and the case is unknown
      pub trimmed_so : Stays c t (kept n)
          ⊎ (Gone c t (trimmed AtRoot (kept n))
          × Moves.MayTrim pr (reading_from root manager outcome above p k v))
      trimmed_so = by_stay (case_stays (kept n) (Some c)) refl
        where
          unknown : case_stays (kept n) (Some c) ≡ false → is_known (recorded_view (kept n) c).standing
              ≡ false
          unknown f = first_false (is_known (recorded_view (kept n) c).standing) (is_reported (kept n) c) f

          by_live : (b : Bool) → is_live p.phase ≡ b → case_stays (kept n) (Some c) ≡ false
              → Stays c t (kept n) ⊎ (Gone c t (trimmed AtRoot (kept n)) × Moves.MayTrim pr r0)
          by_live true e f = inl (none_stays c t (kept n) (none_live e (forgets c t (kept n) (unknown f))))
          by_live false e f =
              inr (gone (kept n) c t f, may_trim root pr refl e (forgets c t (kept n) (unknown f)))

          by_stay : (b : Bool) → case_stays (kept n) (Some c) ≡ b
              → Stays c t (kept n) ⊎ (Gone c t (trimmed AtRoot (kept n)) × Moves.MayTrim pr r0)
          by_stay true f = inl (all_stay c t (kept n) f)
          by_stay false f = by_live (is_live p.phase) refl f

    abbrev at_root : Reading
    at_root = reading_from true manager outcome above p k v

    abbrev below : Reading
    below = reading_from false manager outcome above p k v

    -- At the root its log says what the outcome is.

    pub root_trims : InvariantOf pr (reading_from true manager outcome above p k v)
        → Fits pr (reading_from true manager outcome above p k v)
        (reading_from true manager (has (is_commit c) (trimmed AtRoot (kept n)) || outcome) above p' k v)
    root_trims inv = elim (trimmed_so true inv) [
      | inl g ↦ subst (λ (z : Reading). Fits pr at_root z)
          (sym (ap (λ b. reading_from true manager (b || outcome) above p' k v) g.commit
          ∙ (ap (λ (x : ParentHalf). reading_from true manager (p.commit_kept || outcome) above x k v)
          (half_keeps s s' m place n c t log pairs same g)
          ∙ hardened_root manager outcome above p k v)))
          (Moves.hardens pr at_root inv up)
      | inr g ↦ subst (λ (z : Reading). Fits pr at_root z)
          (sym (ap (λ b. reading_from true manager (b || outcome) above p' k v) g.0.commit
          ∙ (ap (λ (x : ParentHalf). reading_from true manager outcome above x k v)
          (half_clears s s' m place n c t log pairs same g.0)
          ∙ cleared_root manager outcome above p k v forced_commit)))
          (Moves.trims pr at_root inv g.1)
    ]
      where
        forced_commit : p.commit_kept ≡ true → outcome ≡ true
        forced_commit e =
            let h = common_of pr at_root inv in h.root_commit_is_the_outcome refl
            (h.root_commit_is_forced refl e up)

    pub below_trims : InvariantOf pr (reading_from false manager outcome above p k v)
        → Fits pr (reading_from false manager outcome above p k v)
        (reading_from false manager outcome above p' k v)
    below_trims inv = elim (trimmed_so false inv) [
      | inl g ↦ subst (λ (z : Reading). Fits pr below z)
          (sym (ap (λ (x : ParentHalf). reading_from false manager outcome above x k v)
          (half_keeps s s' m place n c t log pairs same g)
          ∙ hardened_below manager outcome above p k v))
          (Moves.hardens pr below inv up)
      | inr g ↦ subst (λ (z : Reading). Fits pr below z)
          (sym (ap (λ (x : ParentHalf). reading_from false manager outcome above x k v)
          (half_clears s s' m place n c t log pairs same g.0)
          ∙ cleared_below manager outcome above p k v forced_promise))
          (Moves.trims pr below inv g.1)
    ]
      where
        forced_promise : p.own_prepare_kept ≡ true → p.own_prepare_ever ≡ true
        forced_promise e = let h = common_of pr below inv in (h.forced_promise (h.promise_is_forced e up)).1
