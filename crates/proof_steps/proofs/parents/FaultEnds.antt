-- Faults after the records of the pair's own case that has promised, or was decided, on the pair.
use Rattle.std.proofs.Common.{◌≡◌, ◌∙◌, ℕ, Bool, true, false, [], refl, sym, subst, List}
use Rattle.protocol.specs.declared.names.Ticket.{Ticket}
use Rattle.protocol.specs.declared.names.Outcome.{Outcome}
use Rattle.protocol.specs.declared.names.Presumption.{Presumption}
use Rattle.protocol.specs.declared.names.Presumption.TheVariants.{PresumeAbort, PresumeCommit}
use Rattle.protocol.specs.declared.messages.Message.TheVariants.{Commit, Abort, Ack}
use Rattle.protocol_words.specs.Variants.{AbortRecord, CommitRecord, EndRecord}
use Rattle.protocol.specs.declared.standings.Standing.TheVariants.{Prepared}
use Rattle.protocol.specs.Records.{has, is_commit, is_prepare, none_of}
use Rattle.protocol.specs.Nodes.{fails_in, kept}
use Rattle.protocol.specs.Memory.{Memory, Phase, Idle, Open, Asked, Over}
use Rattle.protocol.specs.CoordinatorRows.{Row, other_tickets}
use Rattle.protocol.specs.Reactions.{row_effect}
use Rattle.protocol.specs.Standings.{CoordinatorView}
use Rattle.proof_pairs.specs.Reading.{Reading, Closed}
use Rattle.proof_pairs.specs.ParentCrash
use Rattle.proof_pairs.specs.readings.ReadingOf.{ParentHalf, Wire, acknowledged}
use Rattle.proof_pairs.proofs.readings.Lists.{has-cons}
use Rattle.proof_pairs.specs.turns.CoordinatorTurns.{HasDecided, HearsChild, HearsParent}
use Rattle.proof_processes.specs.WorldHolds.{InOrder}
use Rattle.proof_steps.proofs.parents.FaultNothing.{begun_still}
use Rattle.proof_steps.proofs.parents.FaultOwn
use Rattle.proof_steps.proofs.parents.FaultReadings
use Rattle.proof_steps.proofs.parents.FaultTurns.{one_written, record_appended}
use Rattle.proof_steps.proofs.parents.Faults.{Fault_fine, down}
use Rattle.proof_steps.proofs.parents.Halves.{live_phase}
use Rattle.proof_steps.proofs.parents.Moves
use Rattle.proof_steps.proofs.parents.Own
use Rattle.proof_steps.proofs.parents.OwnDecided
use Rattle.proof_steps.proofs.parents.OwnMoves.{and_then, read_as}
use Rattle.proof_steps.proofs.parents.OwnPromised
use Rattle.proof_steps.proofs.parents.OwnPromised.{not_open, not_asked}
use Rattle.proof_steps.proofs.parents.OwnQuiet.{rest_abort, rest_commit}
use Rattle.proof_steps.proofs.parents.Quiet.{rested}
use Rattle.proof_steps.proofs.parents.Rested
use Rattle.proof_steps.proofs.parents.Turns.{Turn, Fits_in, seen, remembered, half, net_part, told_outcome, reading, at_root}
use Rattle.proof_steps.proofs.parents.Writes.{begun_after, wrote}
use Rattle.protocol.specs.declared.messages.Finding.{Finding}

closed_by : (ph : Phase) → (ph ≡ Open → ⊥) → (ph ≡ Asked → ⊥) → live_phase ph ≡ Closed
closed_by Idle f g = refl
closed_by Over f g = refl
closed_by Open f g = absurd (f refl)
closed_by Asked f g = absurd (g refl)

module _ (turn : Turn) where
  open turn use {place, parent, n, h, net, c, t, manager, above, k, up, inv}

  abbrev m : Memory
  m = remembered turn

  abbrev p0 : ParentHalf
  p0 = half turn

  abbrev v0 : Wire
  v0 = net_part turn

  abbrev o0 : Bool
  o0 = told_outcome turn

  abbrev root : Bool
  root = at_root turn

  abbrev v : CoordinatorView
  v = Own.v turn

  abbrev promise : Bool
  promise = has (is_prepare c) n.life

  abbrev Ordered : Row → ℕ → ℕ → Type 0
  Ordered row x f = InOrder c (kept (fails_in n h (row_effect c row) x f))

  abbrev Fails : Row → ℕ → ℕ → Type 0
  Fails row x f = Fault_fine turn (row_effect c row) x f

  abbrev X : Bool → ParentHalf → Reading
  X b q = FaultReadings.X manager above k c t b o0 q v0

  at_false : root ≡ false → (P : Bool → Type 0) → P false → P root
  at_false e P x = subst P (sym e) x

  closed : (m.phase ≡ Open → ⊥) → (m.phase ≡ Asked → ⊥) → p0.phase ≡ Closed
  closed f g = OwnPromised.phase_stays turn ∙ closed_by m.phase f g

  promise_closed : v.standing ≡ Prepared → p0.phase ≡ Closed
  promise_closed e = closed (not_open turn Prepared e (λ z. cc)) (not_asked turn Prepared e (λ z. cc))

  pub passes_commit : (p : Presumption) → HearsParent parent h (Commit c) → v.standing ≡ Prepared
      → c.txn.presumption ≡ p → (x f : ℕ) → Ordered (OwnPromised.commit_row turn p) x f
      → Fails (OwnPromised.commit_row turn p) x f
  passes_commit PresumeAbort i e q x f order =
      let b = OwnPromised.is_below turn i.from i.is_parent in
      let g = row_effect c (OwnPromised.commit_row turn PresumeAbort) in
      one_written turn g x f order (CommitRecord c v.promised) refl
      (FaultOwn.of_rests turn g refl (rest_commit turn i))
      (λ one. record_appended turn g x f order (CommitRecord c v.promised) one (λ j. refl) m.phase
      p0.accepted p0.acked
      (OwnPromised.commit_says turn i) p0 refl
      (read_as turn _ _
      (at_false b (λ y. X y (down p0.accepted p0.acked (begun_after m.phase (fails_in n h g x f) c)
      (wrote (CommitRecord c v.promised) c t promise p0))
      ≡ ParentCrash.fails_to_pass_commit_naming (X y p0))
      (FaultReadings.fails-passes_commit_naming manager above k c t o0 promise
      (begun_after m.phase (fails_in n h g x f) c) v.promised p0 v0
      (promise_closed e) (OwnPromised.names turn e)
      (OwnPromised.no_owed_abort turn q (OwnPromised.facts turn e).no_commit)))
      (Moves.fails_to_pass_commit_naming c.txn.presumption q (reading turn) inv
      (record {
        cascaded = b;
        up = up;
        waits = OwnPromised.waits turn e;
        answer_is_true =
            OwnPromised.commit_told turn e i;
      }))))
  passes_commit PresumeCommit i e q x f order =
      let b = OwnPromised.is_below turn i.from i.is_parent in
      let g = row_effect c (OwnPromised.commit_row turn PresumeCommit) in
      one_written turn g x f order (CommitRecord c []) refl
      (FaultOwn.of_rests turn g refl (rest_commit turn i))
      (λ one. record_appended turn g x f order (CommitRecord c []) one (λ j. refl) m.phase p0.accepted
      p0.acked
      (OwnPromised.commit_says turn i) p0 refl
      (read_as turn _ _
      (at_false b (λ y. X y (down p0.accepted p0.acked (begun_after m.phase (fails_in n h g x f) c)
      (wrote (CommitRecord c []) c t promise p0))
      ≡ ParentCrash.fails_to_pass_commit (X y p0))
      (FaultReadings.fails-passes_commit manager above k c t o0 promise
      (begun_after m.phase (fails_in n h g x f) c) p0 v0
      (promise_closed e)))
      (Moves.fails_to_pass_commit c.txn.presumption q (reading turn) inv
      (record {
        cascaded = b;
        up = up;
        waits = OwnPromised.waits turn e;
        answer_is_true =
            OwnPromised.commit_told turn e i;
      }))))

  pub passes_abort : (p : Presumption) → HearsParent parent h (Abort c) → v.standing ≡ Prepared
      → c.txn.presumption ≡ p → (x f : ℕ) → Ordered (OwnPromised.abort_row turn p) x f
      → Fails (OwnPromised.abort_row turn p) x f
  passes_abort PresumeAbort i e q x f order =
      let b = OwnPromised.is_below turn i.from i.is_parent in
      let g = row_effect c (OwnPromised.abort_row turn PresumeAbort) in
      one_written turn g x f order (AbortRecord c []) refl
      (FaultOwn.of_rests turn g refl (rest_abort turn i (not_open turn Prepared e (λ z. cc))
      (not_asked turn Prepared e (λ z. cc))))
      (λ one. record_appended turn g x f order (AbortRecord c []) one (λ j. refl) m.phase p0.accepted p0.acked
      (OwnPromised.abort_says turn e i) p0 refl
      (subst (λ (y : Bool). Fits_in turn
      (seen turn o0 (down p0.accepted p0.acked (begun_after m.phase (fails_in n h g x f) c)
      (wrote (AbortRecord c []) c t y p0)) v0))
      (sym (OwnPromised.promise_written turn e))
      (read_as turn _ _
      (at_false b (λ y. X y (down p0.accepted p0.acked (begun_after m.phase (fails_in n h g x f) c)
      (wrote (AbortRecord c []) c t true p0))
      ≡ ParentCrash.fails_to_pass_abort (X y p0))
      (FaultReadings.fails-passes_abort manager above k c t o0 (begun_after m.phase (fails_in n h g x f) c) p0
      v0 (promise_closed e)))
      (Moves.fails_to_pass_abort c.txn.presumption q (reading turn) inv
      (record {
        cascaded = b;
        up = up;
        waits = OwnPromised.waits turn e;
        answer_is_true = OwnPromised.abort_told
            turn e i;
      })))))
  passes_abort PresumeCommit i e q x f order =
      let b = OwnPromised.is_below turn i.from i.is_parent in
      let g = row_effect c (OwnPromised.abort_row turn PresumeCommit) in
      one_written turn g x f order (AbortRecord c v.promised) refl
      (FaultOwn.of_rests turn g refl (rest_abort turn i (not_open turn Prepared e (λ z. cc))
      (not_asked turn Prepared e (λ z. cc))))
      (λ one. record_appended turn g x f order (AbortRecord c v.promised) one (λ j. refl) m.phase
      p0.accepted p0.acked
      (OwnPromised.abort_says turn e i) p0 refl
      (subst (λ (y : Bool). Fits_in turn
      (seen turn o0 (down p0.accepted p0.acked (begun_after m.phase (fails_in n h g x f) c)
      (wrote (AbortRecord c v.promised) c t y p0)) v0))
      (sym (OwnPromised.promise_written turn e))
      (read_as turn _ _
      (at_false b (λ y. X y (down p0.accepted p0.acked (begun_after m.phase (fails_in n h g x f) c)
      (wrote (AbortRecord c v.promised) c t true p0))
      ≡ ParentCrash.fails_to_pass_abort_naming (X y p0))
      (FaultReadings.fails-passes_abort_naming manager above k c t o0
      (begun_after m.phase (fails_in n h g x f) c) v.promised p0 v0 (promise_closed e)
      (OwnPromised.names turn e) (OwnPromised.no_owed_commit turn q (OwnPromised.facts turn e).no_abort)))
      (Moves.fails_to_pass_abort_naming c.txn.presumption q (reading turn) inv
      (record {
        cascaded = b;
        up = up;
        waits = OwnPromised.waits turn e;
        answer_is_true = OwnPromised.abort_told
            turn e i;
      })))))

  -- The last ACK.

  end_fits : (b : Bool) → Fits_in turn (seen turn o0 (rested turn b) v0) → (o : Outcome) (p : Presumption)
      → c.txn.presumption ≡ p → o ≡ acknowledged p → HasDecided o v.standing → (p0.owed ≡ true → b ≡ true)
      → Fits_in turn (ParentCrash.fails_to_end (seen turn o0 (rested turn b) v0))
  end_fits b fits o PresumeAbort q e d f =
      and_then turn _ _ fits
      (Moves.fails_to_end_commit c.txn.presumption q _ fits.invariant
      (OwnDecided.may_end_commit turn b v.standing
      (subst (λ (x : Outcome). HasDecided x v.standing) e d) refl f))
  end_fits b fits o PresumeCommit q e d f =
      and_then turn _ _ fits
      (Moves.fails_to_end_abort c.txn.presumption q _ fits.invariant
      (OwnDecided.may_end_abort turn b v.standing
      (subst (λ (x : Outcome). HasDecided x v.standing) e d) refl f))

  pub ends : (u : Ticket) (o : Outcome) (fs : List Finding) → HearsChild place n h c u (λ d. Ack d o fs)
      → HasDecided o v.standing
      → none_of (other_tickets u v.owed) ≡ true → (x f : ℕ) → Ordered (OwnDecided.end_row turn o fs) x f
      → Fails (OwnDecided.end_row turn o fs) x f
  ends u o fs i d none x f order =
      let g = row_effect c (OwnDecided.end_row turn o fs) in
      let r = EndRecord c (OwnDecided.reports turn o fs) in
      let b = OwnDecided.heard_acks turn u o fs i d none in
      let late = OwnDecided.late_of turn o v.standing d refl in
      one_written turn g x f order r refl
      (FaultOwn.of_rests turn g refl (Rested.rest_ack turn o fs i.txn u i.hears.0 i.hears.1))
      (λ one. record_appended turn g x f order r one (λ j. refl) m.phase p0.accepted b
      (OwnDecided.ack_says turn u o fs i d none) p0 refl
      (subst (λ (y : Bool). Fits_in turn
      (seen turn o0 (down p0.accepted b y (wrote r c t promise p0)) v0))
      (sym (begun_still turn g x f m.phase (rw one (has-cons (is_commit c) r n.life)) refl))
      (read_as turn _ _ (FaultReadings.fails-ends manager above k c t
      (OwnDecided.reports turn o fs) root o0 promise
      (rested turn b) v0 (closed late.0 late.1))
      (end_fits b (OwnDecided.ack_fits turn u o fs i d none) o c.txn.presumption refl
      (OwnDecided.agrees turn u o fs i d none) d
      (OwnDecided.all_acked turn u o fs i d none)))))
