-- The outcome comes to the pair's own case, which has promised, on the pair.
use Rattle.std.proofs.Common.{◌≡◌, ◌≢◌, ◌∙◌, Bool, true, false, ◌||◌, ◌&&◌, Some, List, [], ◌++◌, refl, sym, ap, subst}
use Rattle.protocol.specs.declared.names.Outcome.{Outcome}
use Rattle.protocol.specs.declared.names.ProcessId.{ProcessId}
use Rattle.protocol_words.specs.Variants.{AbortRecord, AbortedOutcome, CommitRecord, CommittedOutcome}
use Rattle.protocol.specs.declared.names.Presumption.{Presumption}
use Rattle.protocol.specs.declared.names.Presumption.TheVariants.{PresumeAbort, PresumeCommit}
use Rattle.protocol.specs.declared.messages.Message.TheVariants.{Commit, Abort, Ack}
use Rattle.protocol.specs.declared.records.Record.{Record}
use Rattle.protocol.specs.declared.standings.Standing.{Standing}
use Rattle.protocol.specs.declared.standings.Standing.TheVariants.{Active, Collecting, Prepared}
use Rattle.protocol.specs.NameLaws.{same_case-refl, same_txn-refl}
use Rattle.protocol.specs.Records.{has, in_list, is_prepare, is_commit}
use Rattle.protocol.specs.Nodes.{Version, First, Second, after, kept}
use Rattle.protocol.specs.Memory.{Memory, Phase, Open, Asked}
use Rattle.protocol.specs.CoordinatorRows.{acknowledges_at_once, Row, each, posted_up, prepared_commit_by, prepared_abort_by}
use Rattle.protocol.specs.Outcomes.{is_outcome_message}
use Rattle.protocol.specs.Reactions.{row_effect, seat_of}
use Rattle.protocol.specs.Standings.{CoordinatorView}
use Rattle.proof_pairs.specs.Reading.{Reading}
use Rattle.proof_pairs.specs.Standing.{Waits}
use Rattle.proof_pairs.specs.ParentMoves
use Rattle.proof_pairs.specs.CascadedMoves
use Rattle.proof_pairs.specs.readings.ReadingOf.{ParentHalf, Wire, wire}
use Rattle.proof_pairs.proofs.readings.Named.{promised_by-naming}
use Rattle.proof_pairs.specs.turns.CoordinatorTurns.{HearsParent}
use Rattle.proof_processes.specs.ProcessSteps.{outcome_in}
use Rattle.proof_processes.specs.WorldHolds.{InvariantOf}
use Rattle.proof_processes.proofs.Deliveries.{was_sent}
use Rattle.proof_steps.proofs.parents.Halves.{phase_of}
use Rattle.proof_steps.proofs.parents.Known.{clash}
use Rattle.proof_steps.proofs.parents.Memories
use Rattle.proof_steps.proofs.parents.Memories.{below_is, itself, stays}
use Rattle.proof_steps.proofs.parents.Moves
use Rattle.proof_steps.proofs.parents.Own
use Rattle.proof_steps.proofs.parents.Own.{Goes}
use Rattle.proof_steps.proofs.parents.OwnMoves.{own_forced, own_plain, forced_first, and_then, read_as, from_above_says}
use Rattle.proof_steps.proofs.parents.OwnQuiet.{After, not_childs}
use Rattle.proof_steps.proofs.parents.Readings
use Rattle.proof_steps.proofs.parents.Rested
use Rattle.proof_steps.proofs.parents.Rested.{view_so}
use Rattle.proof_steps.proofs.parents.Tables.{PreparedFacts, prepared_facts}
use Rattle.proof_steps.proofs.parents.Turns.{Turn, Fine, Fits_in, seen, remembered, half, net_part, told_outcome, reading, at_root}
use Rattle.proof_steps.proofs.parents.Wires
use Rattle.proof_steps.proofs.parents.Wires.{Silent, silent_before}
use Rattle.proof_steps.proofs.parents.Writes.{stands_so, hardens, wrote, begun_after}

-- a half as memory left it
pub left_as : (ph : Phase) (x : Bool) (q : ParentHalf) → q.phase ≡ phase_of false ph
    → stands_so false ph q.accepted q.acked x q ≡ record q { begun = x }
left_as ph x q e = rw e refl

module _ (turn : Turn) where
  open turn use {
    place,
    parent,
    seat,
    n,
    h,
    net,
    c,
    t,
    manager,
    above,
    k,
    up,
    inv,
    holds,
    nested,
    stands,
    outcome,
  }

  abbrev p0 : ParentHalf
  p0 = half turn

  abbrev v0 : Wire
  v0 = net_part turn

  abbrev o0 : Bool
  o0 = told_outcome turn

  abbrev root : Bool
  root = at_root turn

  abbrev v : CoordinatorView
  v = Own.v turn

  abbrev m : Memory
  m = remembered turn

  abbrev promised : Bool
  promised = has (is_prepare c) n.life

  -- a case that stands so is neither open nor asked
  pub not_open : (s : Standing) → v.standing ≡ s → s ≢ Active → m.phase ≡ Open → ⊥
  not_open s e f o = f (sym e ∙ (holds.alike up c).open_is_active o)

  pub not_asked : (s : Standing) → v.standing ≡ s → s ≢ Collecting → m.phase ≡ Asked → ⊥
  not_asked s e f a = f (sym e ∙ (holds.alike up c).asked_is_collecting a)

  pub phase_stays : p0.phase ≡ phase_of false m.phase
  phase_stays = ap (λ b. phase_of b m.phase) up

  pub facts : v.standing ≡ Prepared
      → PreparedFacts p0.end_kept p0.commit_kept p0.abort_kept p0.own_prepare_kept
  facts e = prepared_facts place n c e

  pub waits : v.standing ≡ Prepared → Waits (reading turn)
  waits e = let f = facts e in record { promised = f.promise; no_commit = f.no_commit; no_abort = f.no_abort }

  pub names : v.standing ≡ Prepared → in_list v.promised t ≡ p0.names
  names e = ap (λ (x : CoordinatorView). in_list x.promised t) (view_so place n c Prepared e)
      ∙ promised_by-naming c t (kept_records)
    where
      kept_records : List Record
      kept_records = kept n

  pub promise_written : v.standing ≡ Prepared → promised ≡ true
  promise_written e = nested.kept_was_written (is_prepare c) (λ j. refl) (facts e).promise

  -- what it is told is the outcome
  outcome_is : (p : ProcessId) → parent ≡ Some p → o0 ≡ outcome
  outcome_is p s = below_is place.role parent seat (λ r. outcome_in r n c outcome ≡ outcome) p s refl

  pub commit_told : v.standing ≡ Prepared → HearsParent parent h (Commit c) → o0 ≡ true
  commit_told e i =
      outcome_is i.from i.is_parent
      ∙ (from_above_says turn i.from i.is_parent).commit_is_true
      (was_sent (is_outcome_message CommittedOutcome c) net place.me h.input i.hears.0 (Commit c) stands
      i.hears.1 (same_case-refl c)) e

  pub abort_told : v.standing ≡ Prepared → HearsParent parent h (Abort c) → o0 ≡ false
  abort_told e i =
      outcome_is i.from i.is_parent
      ∙ (from_above_says turn i.from i.is_parent).abort_is_true
      (was_sent (is_outcome_message AbortedOutcome c) net place.me h.input i.hears.0 (Abort c) stands
      i.hears.1 (same_case-refl c)) e

  pub is_below : (p : ProcessId) → parent ≡ Some p → root ≡ false
  is_below p s = Own.seat_is turn (λ s' e. absurd (let z = sym s ∙ s' in cc)) (λ p' s' e. e)

  pub commit_says : HearsParent parent h (Commit c) → Goes turn m.phase
  commit_says i = stays turn m (Memories.commit_comes turn c i.hears.0 i.hears.1) (itself turn)

  pub abort_says : v.standing ≡ Prepared → HearsParent parent h (Abort c) → Goes turn m.phase
  abort_says e i =
      Rested.abort_stays turn c i.hears.0 i.from i.is_parent i.hears.1
      (λ x o. not_open Prepared e (λ z. cc) o)
      (λ x o. not_asked Prepared e (λ z. cc) o)

  pub no_owed_abort : c.txn.presumption ≡ PresumeAbort → p0.commit_kept ≡ false → p0.owed ≡ false
  no_owed_abort q f = by_test p0.owed refl
    where
      stands_for : (pr : Presumption) → pr ≡ PresumeAbort → InvariantOf pr (reading turn) → p0.owed ≡ true
          → p0.commit_kept ≡ true
      stands_for PresumeAbort e j x = j.owed_stands x
      stands_for PresumeCommit e j x = absurd (cc)

      by_test : (b : Bool) → p0.owed ≡ b → p0.owed ≡ false
      by_test false x = x
      by_test true x = clash p0.commit_kept (stands_for c.txn.presumption q inv x) f

  pub no_owed_commit : c.txn.presumption ≡ PresumeCommit → p0.abort_kept ≡ false → p0.owed ≡ false
  no_owed_commit q f = by_test p0.owed refl
    where
      stands_for : (pr : Presumption) → pr ≡ PresumeCommit → InvariantOf pr (reading turn) → p0.owed
          ≡ true → p0.abort_kept ≡ true
      stands_for PresumeCommit e j x = j.owed_stands x
      stands_for PresumeAbort e j x = absurd (cc)

      by_test : (b : Bool) → p0.owed ≡ b → p0.owed ≡ false
      by_test false x = x
      by_test true x = clash p0.abort_kept (stands_for c.txn.presumption q inv x) f

  abbrev pub commit_row : Presumption → Row
  commit_row p = prepared_commit_by h.version (seat_of place parent c) v p

  abbrev pub abort_row : Presumption → Row
  abort_row p = prepared_abort_by h.version (seat_of place parent c) v p

  abbrev X : Bool → Bool → ParentHalf → Wire → Reading
  X b o q x = Readings.R manager above k c t b o q x

  at_false : root ≡ false → (P : Bool → Type 0) → P false → P root
  at_false e P x = subst P (sym e) x

  outcome_still : root ≡ false → ((root && p0.commit_kept) || o0) ≡ o0
  outcome_still e = rw e refl

  abbrev now : Row → Bool
  now row = begun_after m.phase (after n h (row_effect c row)) c

  commits_to : v.standing ≡ Prepared
      → wire c t (net ++ each (seat_of place parent c) Commit v.promised)
      ≡ record v0 { commit = p0.names || v0.commit }
  commits_to e = Wires.wire-commits c t net (seat_of place parent c) v.promised p0.names
      (rw (same_txn-refl c.txn) (names e))

  aborts_to : v.standing ≡ Prepared
      → wire c t (net ++ each (seat_of place parent c) Abort v.promised)
      ≡ record v0 { abort = p0.names || v0.abort }
  aborts_to e = Wires.wire-aborts c t net (seat_of place parent c) v.promised p0.names
      (rw (same_txn-refl c.txn) (names e))

  at_once : (ver : Version) (o : Outcome)
      → Silent c t net (acknowledges_at_once ver (seat_of place parent c) o)
  at_once First o = Wires.silent-ack c t net place.me parent c (not_childs turn) o []
  at_once Second o = simp (Wires.sent-none)

  pub passes_commit : (p : Presumption) → HearsParent parent h (Commit c) → v.standing ≡ Prepared
      → c.txn.presumption ≡ p → After turn (commit_row p) → Fine turn (row_effect c (commit_row p))
  passes_commit PresumeAbort i e q later =
      let b = is_below i.from i.is_parent in
      let first = forced_first turn in
      let f = facts e in
      let w : Wire = record v0 { commit = p0.names || v0.commit } in
      let half_then : ParentHalf = hardens (wrote (CommitRecord c v.promised) c t promised p0) in
      own_forced turn (commit_row PresumeAbort) later m.phase (commit_says i) w
      (silent_before c t net (acknowledges_at_once h.version (seat_of place parent c) CommittedOutcome)
      (each (seat_of place parent c) Commit v.promised)
      (at_once h.version CommittedOutcome) ∙ commits_to e)
      p0 refl (CommitRecord c v.promised) (λ j. refl) refl
      (subst (λ (x : ParentHalf). Fits_in turn
      (seen turn ((root && (is_commit c (CommitRecord c v.promised) || p0.commit_kept)) || o0) x w))
      (sym (left_as m.phase (now (commit_row PresumeAbort)) half_then phase_stays))
      (read_as turn _ _
      (at_false b (λ y. X y ((y && (is_commit c (CommitRecord c v.promised) || p0.commit_kept)) || o0)
      (record half_then { begun = now (commit_row PresumeAbort) }) w
      ≡ CascadedMoves.passes_commit_forced (ParentMoves.hardens_parent (X y o0 p0 v0)))
      (Readings.reading-passes_commit_forced manager above k c t o0 promised
      (now (commit_row PresumeAbort)) v.promised p0 v0 (names e)
      (no_owed_abort q f.no_commit)))
      (and_then turn (ParentMoves.hardens_parent (reading turn)) _ first
      (Moves.passes_commit_forced c.txn.presumption q
      (ParentMoves.hardens_parent (reading turn)) first.invariant
      (let ws = waits e in record {
        cascaded = b;
        up = up;
        waits = record { promised = ws.promised; no_commit = ws.no_commit; no_abort = ws.no_abort };
        answer_is_true = outcome_still b ∙ commit_told e i;
      })))))
  passes_commit PresumeCommit i e q later =
      let b = is_below i.from i.is_parent in
      let w : Wire = record v0 { commit = p0.names || v0.commit } in
      let half_then : ParentHalf = wrote (CommitRecord c []) c t promised p0 in
      own_plain turn (commit_row PresumeCommit) later m.phase (commit_says i) w (commits_to e)
      p0 refl (CommitRecord c []) (λ j. refl) refl
      (subst (λ (x : ParentHalf). Fits_in turn (seen turn o0 x w))
      (sym (left_as m.phase (now (commit_row PresumeCommit)) half_then phase_stays))
      (read_as turn _ _
      (at_false b (λ y. X y o0 (record half_then { begun = now (commit_row PresumeCommit) }) w
      ≡ CascadedMoves.passes_commit (X y o0 p0 v0))
      (Readings.reading-passes_commit manager above k c t o0 promised (now (commit_row PresumeCommit)) p0 v0))
      (Moves.passes_commit c.txn.presumption q (reading turn) inv
      (record { cascaded = b; up = up; waits = waits e; answer_is_true = commit_told e i }))))

  pub passes_abort : (p : Presumption) → HearsParent parent h (Abort c) → v.standing ≡ Prepared
      → c.txn.presumption ≡ p → After turn (abort_row p) → Fine turn (row_effect c (abort_row p))
  passes_abort PresumeAbort i e q later =
      let b = is_below i.from i.is_parent in
      let w : Wire = record v0 { abort = p0.names || v0.abort } in
      let half_then : Bool → ParentHalf = λ y. wrote (AbortRecord c []) c t y p0 in
      own_plain turn (abort_row PresumeAbort) later m.phase (abort_says e i) w (aborts_to e)
      p0 refl (AbortRecord c []) (λ j. refl) refl
      (subst (λ (x : ParentHalf). Fits_in turn (seen turn o0 x w))
      (sym (left_as m.phase (now (abort_row PresumeAbort)) (half_then promised) phase_stays
      ∙ ap (λ y. record (half_then y) { begun = now (abort_row PresumeAbort) }) (promise_written e)))
      (read_as turn _ _
      (at_false b (λ y. X y o0 (record (half_then true) { begun = now (abort_row PresumeAbort) }) w
      ≡ CascadedMoves.passes_abort (X y o0 p0 v0))
      (Readings.reading-passes_abort manager above k c t o0 (now (abort_row PresumeAbort)) p0 v0))
      (Moves.passes_abort c.txn.presumption q (reading turn) inv
      (record { cascaded = b; up = up; waits = waits e; answer_is_true = abort_told e i }))))
  passes_abort PresumeCommit i e q later =
      let b = is_below i.from i.is_parent in
      let first = forced_first turn in
      let f = facts e in
      let w : Wire = record v0 { abort = p0.names || v0.abort } in
      let half_then : Bool → ParentHalf = λ y. hardens (wrote (AbortRecord c v.promised) c t y p0) in
      own_forced turn (abort_row PresumeCommit) later m.phase (abort_says e i) w
      (silent_before c t net (acknowledges_at_once h.version (seat_of place parent c) AbortedOutcome)
      (each (seat_of place parent c) Abort v.promised)
      (at_once h.version AbortedOutcome) ∙ aborts_to e)
      p0 refl (AbortRecord c v.promised) (λ j. refl) refl
      (subst (λ (x : ParentHalf). Fits_in turn
      (seen turn ((root && (is_commit c (AbortRecord c v.promised) || p0.commit_kept)) || o0) x w))
      (sym (left_as m.phase (now (abort_row PresumeCommit)) (half_then promised) phase_stays
      ∙ ap (λ y. record (half_then y) { begun = now (abort_row PresumeCommit) }) (promise_written e)))
      (read_as turn _ _
      (at_false b (λ y. X y ((y && (is_commit c (AbortRecord c v.promised) || p0.commit_kept)) || o0)
      (record (half_then true) { begun = now (abort_row PresumeCommit) }) w
      ≡ CascadedMoves.passes_abort_forced (ParentMoves.hardens_parent (X y o0 p0 v0)))
      (Readings.reading-passes_abort_forced manager above k c t o0 (now (abort_row PresumeCommit))
      v.promised p0 v0 (names e)
      (no_owed_commit q f.no_abort)))
      (and_then turn (ParentMoves.hardens_parent (reading turn)) _ first
      (Moves.passes_abort_forced c.txn.presumption q
      (ParentMoves.hardens_parent (reading turn)) first.invariant
      (let ws = waits e in record {
        cascaded = b;
        up = up;
        waits = record { promised = ws.promised; no_commit = ws.no_commit; no_abort = ws.no_abort };
        answer_is_true = outcome_still b ∙ abort_told e i;
      })))))
