-- The rows of the pair's case after its promise, and of one that is over, keep the pair's invariant.
use Rattle.std.proofs.Common.{◌≡◌, ◌∙◌, ◌⊎◌, inl, inr, ◌&&◌, ℕ, Bool, true, false, Some, List, [], ◌∷◌, refl, sym, ap, subst, arith, None}
use Rattle.protocol.specs.declared.names.Case.{Case}
use Rattle.protocol.specs.declared.names.Outcome.{Outcome}
use Rattle.protocol_words.specs.Variants.{AbortRecord, AbortedOutcome, CommitRecord, CommittedOutcome, EndRecord, MessageInput}
use Rattle.protocol.specs.declared.names.Presumption.{Presumption}
use Rattle.protocol.specs.declared.names.Presumption.TheVariants.{PresumeAbort, PresumeCommit}
use Rattle.protocol.specs.declared.names.Ticket.{Ticket}
use Rattle.protocol.specs.declared.messages.Message.TheVariants.{Prepare, Yes, No, Commit, Abort, Ack, Inquire}
use Rattle.protocol.specs.declared.standings.Standing.{Standing}
use Rattle.protocol.specs.declared.standings.Standing.TheVariants.{Unknown, Prepared, Committing, Aborting}
use Rattle.protocol.specs.NameLaws.{same_case-refl}
use Rattle.protocol.specs.Records.{has, is_abort, is_commit, is_end, is_prepare, in_order}
use Rattle.protocol.specs.CoordinatorRows.{Row, acknowledges_at_last, acknowledges_at_once, plain, quiet, Seat, each, post, prepared_abort_by, prepared_commit_by, sends, tells_outcome, up as up_message, ends_with}
use Rattle.protocol.specs.Nodes.{Version, First, Second, Effect, Place, kept}
use Rattle.protocol.specs.Outcomes.{is_outcome_message}
use Rattle.protocol.specs.Reactions.{row_effect, seat_of}
use Rattle.protocol.specs.Standings.{coordinator_view, unknown_view}
use Rattle.proof_pairs.specs.ChildMoves
use Rattle.proof_pairs.specs.Reading.{Reading, is_live}
use Rattle.proof_pairs.specs.Standing.{IsForgotten, IsInDoubt, IsSettled}
use Rattle.proof_pairs.specs.readings.ReadingOf.{Wire, phase_by}
use Rattle.proof_pairs.specs.turns.CoordinatorTurns.{Acknowledges, HasDecided, by_abort, by_commit, PromisesNoMore, abort_again, abort_presumed_commit, aborting_refuses, commit_again, commit_presumed_abort, unknown_refuses}
use Rattle.proof_processes.specs.WorldHolds.{InvariantOf, NamesBy}
use Rattle.proof_processes.proofs.Deliveries.{was_sent}
use Rattle.proof_steps.proofs.children.Moves
use Rattle.proof_steps.proofs.children.Moves.{Fits}
use Rattle.proof_steps.proofs.cascades.Halves.{IsAside, OwnHalf, aside, wrote, aborts, aborts_record, commits, commits_record, hardens, stands_so}
use Rattle.proof_steps.proofs.cascades.Messages
use Rattle.proof_steps.proofs.cascades.Messages.{Said, hears, nothing, said_by}
use Rattle.proof_steps.proofs.cascades.Opens.{live}
use Rattle.proof_steps.proofs.cascades.Readings
use Rattle.proof_steps.proofs.cascades.Standings.{IsOver, aborting_facts, committing_facts, prepared_facts, unknown_facts}
use Rattle.proof_steps.proofs.cascades.Turns.{Fine, R, Remembered, Then, Turn, own_case, fallen, forced_fine, plain_aside, hard, onward, place_in, plain_fine, half_in, r0, silent_fine, wire_in}
use Rattle.proof_steps.proofs.cascades.TurnsVotes.{abort_sent, prepare_sent}
use Rattle.protocol.specs.declared.messages.Finding.{Finding}

closed_at : (f : Bool) (s u : Standing) → s ≡ u → is_live (phase_by false u) ≡ false
    → is_live (phase_by f s) ≡ false
closed_at true s u e g = refl
closed_at false s u e g = ap (λ (x : Standing). is_live (phase_by false x)) e ∙ g

and-false : (a : Bool) → (a && false) ≡ false
and-false a = grind arith

both_true : (a b : Bool) → a ≡ true → b ≡ true → (a && b) ≡ true
both_true a b e f = grind arith

first_no : (a b : Bool) → a ≡ false → (a && b) ≡ false
first_no a b e = grind arith

module _ (turn : Turn) where
  open turn use {
    c,
    t,
    p,
    tree,
    n,
    h,
    net,
    up,
    promise_written,
    order,
    end_decided,
    commit_given,
    abort_given,
    stands,
    pr,
    of,
    root,
    outcome,
    above,
    half,
    inv,
  }

  abbrev d : Case
  d = own_case turn

  abbrev place : Place
  place = place_in turn

  abbrev q : OwnHalf
  q = half_in turn

  abbrev v : Wire
  v = wire_in turn

  abbrev seat : Seat
  seat = seat_of place (Some p) d

  abbrev b : Bool
  b = has (is_prepare d) n.life

  closed_by : (s : Standing) → (coordinator_view place n d).standing ≡ s → is_live (phase_by false s) ≡ false
      → q.is_open ≡ false
  closed_by s e g = closed_at n.failed (coordinator_view place n d).standing s e g

  -- a case that is closed stays closed
  stays_closed : q.is_open ≡ false → live (Remembered turn).phase ≡ false
  stays_closed e = elim (fallen turn (live (Remembered turn).phase) refl) [
    | inl same ↦ same ∙ e
    | inr closed ↦ closed
  ]

  pub commit_sent : (j : ℕ) → h.input ≡ MessageInput j (Commit d) → v.commit ≡ true
  commit_sent j i = was_sent (is_outcome_message CommittedOutcome d) net t.child h.input j (Commit d) stands i
      (same_case-refl d)

  -- One word of a case that is closed.
  closed_says : (e : Effect) → Then turn e → e.written ≡ [] → q.is_open ≡ false → (s : Said)
      → said_by c t e.messages ≡ s → (m : Reading) → R turn q (hears s v) ≡ m → Fits pr (r0 turn) m
      → Fine turn e
  closed_says e next none closed s said m same fits =
      silent_fine turn e next none s said
      (λ o f. subst (λ (z : Reading). Fits pr (r0 turn) z)
      (sym (ap (λ x. R turn (stands_so x q) (hears s v)) (f ∙ (stays_closed closed ∙ sym closed))
      ∙ same)) fits)

  -- Prepared.

  pub prepared_closed : (coordinator_view place n d).standing ≡ Prepared → q.is_open ≡ false
  prepared_closed e = closed_by Prepared e refl

  pub doubt_at : (coordinator_view place n d).standing ≡ Prepared → IsInDoubt (r0 turn)
  doubt_at e =
      let f = prepared_facts place n d e in
      record {
        prepared = f.promised;
        no_commit = f.no_commit;
        no_abort = first_no (has (is_abort d) (kept n)) (has (is_prepare d) (kept n)) f.no_abort;
        not_forgotten = refl;
      }

  pub repeats_yes_own : (j k : ℕ) → h.input ≡ MessageInput j (Prepare d k)
      → (coordinator_view place n d).standing ≡ Prepared
      → Then turn (row_effect d (sends (up_message seat (Yes d)) (coordinator_view place n d)))
      → Fine turn (row_effect d (sends (up_message seat (Yes d)) (coordinator_view place n d)))
  repeats_yes_own j k i e next =
      closed_says (row_effect d (sends (up_message seat (Yes d)) (coordinator_view place n d))) next refl
      (prepared_closed e) (record nothing { yes = true })
      (Messages.said_first c t (post t.child p (Yes d)) [] (Messages.none_silent c t)
      ∙ rw (same_case-refl d) refl)
      (ChildMoves.repeats_yes (r0 turn)) refl
      (Moves.repeats_yes pr (r0 turn) inv
      (record { asked = prepare_sent turn j k i; up = up; promised = (prepared_facts place n d e).promised }))

  pub asks_own : (coordinator_view place n d).standing ≡ Prepared
      → Then turn (row_effect d (sends (up_message seat (Inquire d)) (coordinator_view place n d)))
      → Fine turn (row_effect d (sends (up_message seat (Inquire d)) (coordinator_view place n d)))
  asks_own e next =
      closed_says (row_effect d (sends (up_message seat (Inquire d)) (coordinator_view place n d))) next refl
      (prepared_closed e) (record nothing { inquire = true })
      (Messages.said_first c t (post t.child p (Inquire d)) [] (Messages.none_silent c t)
      ∙ rw (same_case-refl d) refl)
      (ChildMoves.asks (r0 turn)) refl
      (Moves.asks pr (r0 turn) inv (record { up = up; in_doubt = doubt_at e }))

  ack_said : (o x : Outcome) (fs : List Finding) (us : List Ticket)
      → said_by c t (post t.child p (Ack (own_case turn) o fs) ∷ each seat (tells_outcome x) us)
      ≡ record nothing { ack = true }
  ack_said o x fs us = Messages.said_first c t (post t.child p (Ack d o fs)) (each seat (tells_outcome x) us)
      (Messages.each_silent c t seat x us)
      ∙ rw (same_case-refl d) refl

  -- COMMIT comes.
  commit_first : (j : ℕ) → h.input ≡ MessageInput j (Commit d) → (x : Presumption)
      → d.txn.presumption ≡ x → (coordinator_view place n d).standing ≡ Prepared
      → Then turn (row_effect d (prepared_commit_by First seat (coordinator_view place n d) x))
      → Fine turn (row_effect d (prepared_commit_by First seat (coordinator_view place n d) x))
  commit_first j i PresumeAbort f e next =
      let ts = (coordinator_view place n d).promised in
      let closed = prepared_closed e in
      let doubt = doubt_at e in
      forced_fine turn (row_effect d (prepared_commit_by First seat (coordinator_view place n d)
      PresumeAbort)) next
      (CommitRecord d ts) refl (λ x. refl) (record nothing { ack = true })
      (ack_said CommittedOutcome CommittedOutcome [] ts)
      (λ o g. subst (λ (z : Reading). Fits pr (r0 turn) z)
      (sym (ap (λ (x : OwnHalf). R turn (stands_so o (hardens x)) (record v { ack = true }))
      (commits_record d ts b q)
      ∙ (ap (λ x. R turn (stands_so x (hardens (commits q))) (record v { ack = true }))
      (g ∙ stays_closed closed)
      ∙ Readings.reading-commit_forced root outcome above half q v closed doubt.prepared)))
      (onward turn (ChildMoves.commits_forced (ChildMoves.hardens_child (r0 turn)))
      (Moves.commits_forced pr (sym of ∙ f) (ChildMoves.hardens_child (r0 turn)) (hard turn).invariant
      (record {
        up = up;
        told = commit_sent j i;
        in_doubt = record {
          prepared = doubt.prepared;
          no_commit = doubt.no_commit;
          no_abort = doubt.no_abort;
          not_forgotten = refl;
        };
      }))))
  commit_first j i PresumeCommit f e next =
      let ts = (coordinator_view place n d).promised in
      let closed = prepared_closed e in
      let doubt = doubt_at e in
      plain_fine turn (row_effect d (prepared_commit_by First seat (coordinator_view place n d)
      PresumeCommit)) next
      (CommitRecord d []) refl (λ x. refl) nothing (Messages.each_silent c t seat CommittedOutcome ts)
      (λ o g. subst (λ (z : Reading). Fits pr (r0 turn) z)
      (sym (ap (λ (x : OwnHalf). R turn (stands_so o x) v) (commits_record d [] b q)
      ∙ (ap (λ x. R turn (stands_so x (commits q)) v) (g ∙ stays_closed closed)
      ∙ Readings.reading-commit_plain root outcome above half q v closed doubt.prepared)))
      (Moves.commits pr (sym of ∙ f) (r0 turn) inv
      (record { up = up; told = commit_sent j i; in_doubt = doubt })))

  commit_second : (j : ℕ) → h.input ≡ MessageInput j (Commit d) → (x : Presumption)
      → d.txn.presumption ≡ x → (coordinator_view place n d).standing ≡ Prepared
      → Then turn (row_effect d (prepared_commit_by Second seat (coordinator_view place n d) x))
      → Fine turn (row_effect d (prepared_commit_by Second seat (coordinator_view place n d) x))
  commit_second j i PresumeAbort f e next =
      let ts = (coordinator_view place n d).promised in
      let closed = prepared_closed e in
      let doubt = doubt_at e in
      forced_fine turn (row_effect d (prepared_commit_by Second seat (coordinator_view place n d)
      PresumeAbort)) next
      (CommitRecord d ts) refl (λ x. refl) nothing (Messages.each_silent c t seat CommittedOutcome ts)
      (λ o g. subst (λ (z : Reading). Fits pr (r0 turn) z)
      (sym (ap (λ (x : OwnHalf). R turn (stands_so o (hardens x)) v)
      (commits_record d ts b q)
      ∙ (ap (λ x. R turn (stands_so x (hardens (commits q))) v)
      (g ∙ stays_closed closed)
      ∙ Readings.reading-commit_waits root outcome above half q v closed doubt.prepared)))
      (onward turn (ChildMoves.learns_commit_forced (ChildMoves.hardens_child (r0 turn)))
      (Moves.learns_commit pr (sym of ∙ f) (ChildMoves.hardens_child (r0 turn)) (hard turn).invariant
      (record {
        up = up;
        told = commit_sent j i;
        in_doubt = record {
          prepared = doubt.prepared;
          no_commit = doubt.no_commit;
          no_abort = doubt.no_abort;
          not_forgotten = refl;
        };
      }))))
  commit_second j i PresumeCommit f e next =
      let ts = (coordinator_view place n d).promised in
      let closed = prepared_closed e in
      let doubt = doubt_at e in
      plain_fine turn (row_effect d (prepared_commit_by Second seat (coordinator_view place n d)
      PresumeCommit)) next
      (CommitRecord d []) refl (λ x. refl) nothing (Messages.each_silent c t seat CommittedOutcome ts)
      (λ o g. subst (λ (z : Reading). Fits pr (r0 turn) z)
      (sym (ap (λ (x : OwnHalf). R turn (stands_so o x) v) (commits_record d [] b q)
      ∙ (ap (λ x. R turn (stands_so x (commits q)) v) (g ∙ stays_closed closed)
      ∙ Readings.reading-commit_plain root outcome above half q v closed doubt.prepared)))
      (Moves.commits pr (sym of ∙ f) (r0 turn) inv
      (record { up = up; told = commit_sent j i; in_doubt = doubt })))

  pub passes_commit_own : (ver : Version) (j : ℕ) → h.input ≡ MessageInput j (Commit d) → (x : Presumption)
      → d.txn.presumption ≡ x → (coordinator_view place n d).standing ≡ Prepared
      → Then turn (row_effect d (prepared_commit_by ver seat (coordinator_view place n d) x))
      → Fine turn (row_effect d (prepared_commit_by ver seat (coordinator_view place n d) x))
  passes_commit_own First j i x f e next = commit_first j i x f e next
  passes_commit_own Second j i x f e next = commit_second j i x f e next

  -- ABORT comes.
  abort_first : (j : ℕ) → h.input ≡ MessageInput j (Abort d) → (x : Presumption)
      → d.txn.presumption ≡ x → (coordinator_view place n d).standing ≡ Prepared
      → Then turn (row_effect d (prepared_abort_by First seat (coordinator_view place n d) x))
      → Fine turn (row_effect d (prepared_abort_by First seat (coordinator_view place n d) x))
  abort_first j i PresumeAbort f e next =
      let ts = (coordinator_view place n d).promised in
      let closed = prepared_closed e in
      let doubt = doubt_at e in
      plain_fine turn (row_effect d (prepared_abort_by First seat (coordinator_view place n d) PresumeAbort))
      next
      (AbortRecord d []) refl (λ x. refl) nothing (Messages.each_silent c t seat AbortedOutcome ts)
      (λ o g. subst (λ (z : Reading). Fits pr (r0 turn) z)
      (sym (ap (λ (x : OwnHalf). R turn (stands_so o x) v) (aborts_record d [] b q)
      ∙ (ap (λ x. R turn (stands_so o (aborts x q)) v) (promise_written doubt.prepared)
      ∙ (ap (λ x. R turn (stands_so x (aborts true q)) v) (g ∙ stays_closed closed)
      ∙ Readings.reading-abort_plain root outcome above half q v closed doubt.prepared))))
      (Moves.rolls_back pr (sym of ∙ f) (r0 turn) inv
      (record { up = up; told = abort_sent turn j i; in_doubt = doubt })))
  abort_first j i PresumeCommit f e next =
      let ts = (coordinator_view place n d).promised in
      let closed = prepared_closed e in
      let doubt = doubt_at e in
      forced_fine turn (row_effect d (prepared_abort_by First seat (coordinator_view place n d)
      PresumeCommit)) next
      (AbortRecord d ts) refl (λ x. refl) (record nothing { ack = true })
      (ack_said AbortedOutcome AbortedOutcome [] ts)
      (λ o g. subst (λ (z : Reading). Fits pr (r0 turn) z)
      (sym (ap (λ (x : OwnHalf). R turn (stands_so o (hardens x)) (record v { ack = true }))
      (aborts_record d ts b q)
      ∙ (ap (λ x. R turn (stands_so o (hardens (aborts x q))) (record v { ack = true }))
      (promise_written doubt.prepared)
      ∙ (ap (λ x. R turn (stands_so x (hardens (aborts true q))) (record v { ack = true }))
      (g ∙ stays_closed closed)
      ∙ Readings.reading-abort_forced root outcome above half q v closed doubt.prepared))))
      (onward turn (ChildMoves.rolls_back_forced (ChildMoves.hardens_child (r0 turn)))
      (Moves.rolls_back_forced pr (sym of ∙ f) (ChildMoves.hardens_child (r0 turn)) (hard turn).invariant
      (record {
        up = up;
        told = abort_sent turn j i;
        in_doubt = record {
          prepared = doubt.prepared;
          no_commit = doubt.no_commit;
          no_abort = doubt.no_abort;
          not_forgotten = refl;
        };
      }))))

  abort_second : (j : ℕ) → h.input ≡ MessageInput j (Abort d) → (x : Presumption)
      → d.txn.presumption ≡ x → (coordinator_view place n d).standing ≡ Prepared
      → Then turn (row_effect d (prepared_abort_by Second seat (coordinator_view place n d) x))
      → Fine turn (row_effect d (prepared_abort_by Second seat (coordinator_view place n d) x))
  abort_second j i PresumeAbort f e next =
      let ts = (coordinator_view place n d).promised in
      let closed = prepared_closed e in
      let doubt = doubt_at e in
      plain_fine turn (row_effect d (prepared_abort_by Second seat (coordinator_view place n d) PresumeAbort))
      next
      (AbortRecord d []) refl (λ x. refl) nothing (Messages.each_silent c t seat AbortedOutcome ts)
      (λ o g. subst (λ (z : Reading). Fits pr (r0 turn) z)
      (sym (ap (λ (x : OwnHalf). R turn (stands_so o x) v) (aborts_record d [] b q)
      ∙ (ap (λ x. R turn (stands_so o (aborts x q)) v) (promise_written doubt.prepared)
      ∙ (ap (λ x. R turn (stands_so x (aborts true q)) v) (g ∙ stays_closed closed)
      ∙ Readings.reading-abort_plain root outcome above half q v closed doubt.prepared))))
      (Moves.rolls_back pr (sym of ∙ f) (r0 turn) inv
      (record { up = up; told = abort_sent turn j i; in_doubt = doubt })))
  abort_second j i PresumeCommit f e next =
      let ts = (coordinator_view place n d).promised in
      let closed = prepared_closed e in
      let doubt = doubt_at e in
      forced_fine turn (row_effect d (prepared_abort_by Second seat (coordinator_view place n d)
      PresumeCommit)) next
      (AbortRecord d ts) refl (λ x. refl) nothing (Messages.each_silent c t seat AbortedOutcome ts)
      (λ o g. subst (λ (z : Reading). Fits pr (r0 turn) z)
      (sym (ap (λ (x : OwnHalf). R turn (stands_so o (hardens x)) v)
      (aborts_record d ts b q)
      ∙ (ap (λ x. R turn (stands_so o (hardens (aborts x q))) v)
      (promise_written doubt.prepared)
      ∙ (ap (λ x. R turn (stands_so x (hardens (aborts true q))) v)
      (g ∙ stays_closed closed)
      ∙ Readings.reading-abort_waits root outcome above half q v closed doubt.prepared))))
      (onward turn (ChildMoves.learns_abort_forced (ChildMoves.hardens_child (r0 turn)))
      (Moves.learns_abort pr (sym of ∙ f) (ChildMoves.hardens_child (r0 turn)) (hard turn).invariant
      (record {
        up = up;
        told = abort_sent turn j i;
        in_doubt = record {
          prepared = doubt.prepared;
          no_commit = doubt.no_commit;
          no_abort = doubt.no_abort;
          not_forgotten = refl;
        };
      }))))

  pub passes_abort_own : (ver : Version) (j : ℕ) → h.input ≡ MessageInput j (Abort d) → (x : Presumption)
      → d.txn.presumption ≡ x → (coordinator_view place n d).standing ≡ Prepared
      → Then turn (row_effect d (prepared_abort_by ver seat (coordinator_view place n d) x))
      → Fine turn (row_effect d (prepared_abort_by ver seat (coordinator_view place n d) x))
  passes_abort_own First j i x f e next = abort_first j i x f e next
  passes_abort_own Second j i x f e next = abort_second j i x f e next

  -- A case that is over.

  decided : has (is_prepare (own_case turn)) (kept n) ≡ true
      → (has (is_commit (own_case turn)) (kept n) ≡ true) ⊎ (has (is_abort (own_case turn)) (kept n) ≡ true)
      → ((r0 turn).learnt_commit_kept ≡ true) ⊎ ((r0 turn).learnt_abort_kept ≡ true)
  decided e (inl f) = inl f
  decided e (inr f) = inr (both_true (has (is_abort d) (kept n)) (has (is_prepare d) (kept n)) f e)

  nothing_left : (x : Bool) → has (is_prepare (own_case turn)) (kept n) ≡ x
      → IsOver (has (is_end (own_case turn)) (kept n)) (has (is_commit (own_case turn)) (kept n))
      (has (is_abort (own_case turn)) (kept n)) (has (is_prepare (own_case turn)) (kept n))
      → ((r0 turn).prepared_kept ≡ false) ⊎ (((r0 turn).forgot_kept ≡ true)
      ⊎ (((r0 turn).heuristic_kept ≡ false)
      × (((r0 turn).learnt_commit_kept ≡ true) ⊎ ((r0 turn).learnt_abort_kept ≡ true))))
  nothing_left false e o = inl e
  nothing_left true e (inl f) = inr (inr (refl, decided e (end_decided f e)))
  nothing_left true e (inr (inl f)) = inr (inr (refl, decided e (inl f)))
  nothing_left true e (inr (inr (inl f))) = inr (inr (refl, decided e (inr f)))
  nothing_left true e (inr (inr (inr f))) = absurd (let g = sym e ∙ f in cc)

  pub forgotten : q.is_open ≡ false
      → IsOver (has (is_end (own_case turn)) (kept n)) (has (is_commit (own_case turn)) (kept n))
      (has (is_abort (own_case turn)) (kept n)) (has (is_prepare (own_case turn)) (kept n))
      → IsForgotten (r0 turn)
  forgotten closed o = record {
    closed = rw closed (and-false v.issued);
    nothing = nothing_left (has (is_prepare d) (kept n)) refl o;
  }

  refused_over : (s : Standing) → (coordinator_view place n d).standing ≡ s → PromisesNoMore s
      → (q.is_open ≡ false) × IsForgotten (r0 turn)
  refused_over _ e unknown_refuses =
      let closed = closed_by Unknown e refl in (closed, forgotten closed (unknown_facts place n d e))
  refused_over _ e aborting_refuses =
      let closed = closed_by Aborting e refl in
      (closed, forgotten closed (inr (inr (inl (aborting_facts place n d e).0))))

  pub refuses_own : (j k : ℕ) → h.input ≡ MessageInput j (Prepare d k)
      → PromisesNoMore (coordinator_view place n d).standing
      → Then turn (row_effect d (sends (up_message seat (No d)) (coordinator_view place n d)))
      → Fine turn (row_effect d (sends (up_message seat (No d)) (coordinator_view place n d)))
  refuses_own j k i e next =
      let over = refused_over (coordinator_view place n d).standing refl e in
      closed_says (row_effect d (sends (up_message seat (No d)) (coordinator_view place n d)))
      next refl over.0
      (record nothing { no = true })
      (Messages.said_first c t (post t.child p (No d)) [] (Messages.none_silent c t)
      ∙ rw (same_case-refl d) refl)
      (ChildMoves.refuses (r0 turn)) refl
      (Moves.refuses pr (r0 turn) inv
      (record { asked = prepare_sent turn j k i; up = up; forgotten = over.1 }))

  -- An outcome that it knows, or of which nothing is known, is acknowledged.

  acks : (o : Outcome) (fs : List Finding) → q.is_open ≡ false
      → Fits pr (r0 turn) (ChildMoves.acknowledges (r0 turn))
      → Then turn (row_effect d (sends (up_message seat (Ack d o fs)) (coordinator_view place n d)))
      → Fine turn (row_effect d (sends (up_message seat (Ack d o fs)) (coordinator_view place n d)))
  acks o fs closed fits next =
      closed_says (row_effect d (sends (up_message seat (Ack d o fs))
      (coordinator_view place n d))) next refl closed
      (record nothing { ack = true })
      (Messages.said_first c t (post t.child p (Ack d o fs)) [] (Messages.none_silent c t)
      ∙ rw (same_case-refl d) refl)
      (ChildMoves.acknowledges (r0 turn)) refl fits

  -- a case that commits does so under Presumed Abort, one that aborts under Presumed Commit
  commits_by : (x : Presumption) → d.txn.presumption ≡ x → (coordinator_view place n d).standing ≡ Committing
      → x ≡ PresumeAbort
  commits_by PresumeAbort f e = refl
  commits_by PresumeCommit f e =
      let g = committing_facts place n d e in
      absurd (let k = sym (subst (λ (y : Presumption). NamesBy y d (kept n)) f order.names g.0) ∙ g.1 in cc)

  aborts_by : (x : Presumption) → d.txn.presumption ≡ x → (coordinator_view place n d).standing ≡ Aborting
      → x ≡ PresumeCommit
  aborts_by PresumeCommit f e = refl
  aborts_by PresumeAbort f e =
      let g = aborting_facts place n d e in
      absurd (let k = sym ((subst (λ (y : Presumption). NamesBy y d (kept n)) f order.names).1 g.0)
      ∙ g.1 in cc)

  acknowledges_by : (ver : Version) (j : ℕ) (o : Outcome) (fs : List Finding)
      → h.input ≡ MessageInput j (tells_outcome o d) → (x : Presumption)
      → d.txn.presumption ≡ x → (s : Standing) → (coordinator_view place n d).standing ≡ s
      → Acknowledges ver d o x s fs
      → (q.is_open ≡ false) × Fits pr (r0 turn) (ChildMoves.acknowledges (r0 turn))
  acknowledges_by _ j CommittedOutcome _ i _ f _ e (commit_presumed_abort w _) =
      let closed = closed_by Unknown e refl in (
        closed,
        Moves.acknowledges_commit pr (sym of ∙ f) (r0 turn) inv (record {
          up = up;
          told = commit_sent j i;
          known = inl (forgotten closed (unknown_facts place n d e));
        }),
      )
  acknowledges_by _ j CommittedOutcome _ i x f _ e (commit_again _ _) =
      let closed = closed_by Committing e refl in (
        closed,
        Moves.acknowledges_commit pr (sym of ∙ (f ∙ commits_by x f e)) (r0 turn) inv (record {
          up = up;
          told = commit_sent j i;
          known = inr (committing_facts place n d e).0;
        }),
      )
  acknowledges_by _ j AbortedOutcome _ i _ f _ e (abort_presumed_commit w _) =
      let closed = closed_by Unknown e refl in (
        closed,
        Moves.acknowledges_abort pr (sym of ∙ f) (r0 turn) inv (record {
          up = up;
          told = abort_sent turn j i;
          known = inl (forgotten closed (unknown_facts place n d e));
        }),
      )
  acknowledges_by _ j AbortedOutcome _ i x f _ e (abort_again _ _) =
      let closed = closed_by Aborting e refl in (
        closed,
        Moves.acknowledges_abort pr (sym of ∙ (f ∙ aborts_by x f e)) (r0 turn) inv (record {
          up = up;
          told = abort_sent turn j i;
          known = inl (forgotten closed (inr (inr (inl (aborting_facts place n d e).0))));
        }),
      )

  pub acknowledges_own : (j : ℕ) (o : Outcome) (fs : List Finding)
      → h.input ≡ MessageInput j (tells_outcome o d)
      → Acknowledges h.version d o d.txn.presumption (coordinator_view place n d).standing fs
      → Then turn (row_effect d (sends (up_message seat (Ack d o fs)) (coordinator_view place n d)))
      → Fine turn (row_effect d (sends (up_message seat (Ack d o fs)) (coordinator_view place n d)))
  acknowledges_own j o fs i a next =
      let f = acknowledges_by h.version j o fs i d.txn.presumption refl
      (coordinator_view place n d).standing refl a in
      acks o fs f.0 f.1 next

  -- By the second version the last acknowledgement of its children is acknowledged.

  settled_by : (closed : q.is_open ≡ false) (o : Outcome) (s : Standing)
      → (coordinator_view place n d).standing ≡ s
      → HasDecided o s → IsSettled (r0 turn)
  settled_by closed _ _ e by_commit =
      let g = committing_facts place n d e in
      let i = subst (λ (y : Presumption). InvariantOf y (r0 turn))
      (sym of ∙ commits_by d.txn.presumption refl e) inv in
      record {
        issued = commit_given g.0;
        closed = rw closed (and-false v.issued);
        decided = inr (inl (i.learnt_commit_is_forced g.0 up));
      }
  settled_by closed _ _ e by_abort =
      let g = aborting_facts place n d e in
      let i = subst (λ (y : Presumption). InvariantOf y (r0 turn))
      (sym of ∙ aborts_by d.txn.presumption refl e) inv in
      record {
        issued = abort_given g.0;
        closed = rw closed (and-false v.issued);
        decided = promised_or_not i.learnt_abort_is_forced g.0 (has (is_prepare d) (kept n)) refl;
      }
    where
      promised_or_not : ((r0 turn).learnt_abort_kept ≡ true → (r0 turn).child_failed ≡ false
          → (r0 turn).learnt_abort_forced ≡ true)
          → has (is_abort (own_case turn)) (kept n) ≡ true
          → (b : Bool) → has (is_prepare (own_case turn)) (kept n) ≡ b
          → ((r0 turn).prepared_kept ≡ false)
          ⊎ (((r0 turn).learnt_commit_forced ≡ true) ⊎ (((r0 turn).learnt_abort_forced ≡ true)
          ⊎ ((r0 turn).forgot_forced ≡ true)))
      promised_or_not i f false g = inl g
      promised_or_not i f true g =
          inr (inr (inl (i (both_true (has (is_abort d) (kept n)) (has (is_prepare d) (kept n)) f g) up)))

  abbrev ends_row : Version → Outcome → List Finding → Row
  ends_row ver o fs = record (quiet unknown_view) {
    written = ends_with ver seat fs;
    messages = acknowledges_at_last ver seat o fs;
  }

  aside_end : IsAside (own_case turn) (EndRecord (own_case turn) None)
  aside_end = record { no_prepare = refl; no_commit = refl; no_abort = refl }

  over_by : (o : Outcome) (s : Standing) → (coordinator_view place n d).standing ≡ s → HasDecided o s
      → q.is_open ≡ false
  over_by _ _ e by_commit = closed_by Committing e refl
  over_by _ _ e by_abort = closed_by Aborting e refl

  pub ends_own : (ver : Version) (o : Outcome) (fs : List Finding)
      → HasDecided o (coordinator_view place n d).standing
      → Then turn (row_effect d (ends_row ver o fs)) → Fine turn (row_effect d (ends_row ver o fs))
  ends_own First o fs i next =
      plain_aside turn _ next (EndRecord d None) refl (λ x. refl) aside_end (Messages.none_silent c t)
  ends_own Second o fs i next =
      let closed = over_by o (coordinator_view place n d).standing refl i in
      let s : Said = record nothing { ack = true } in
      plain_fine turn (row_effect d (ends_row Second o fs)) next (EndRecord d None) refl (λ x. refl) s
      (Messages.said_first c t (post t.child p (Ack d o (in_order fs))) [] (Messages.none_silent c t)
      ∙ rw (same_case-refl d) refl)
      (λ k f. subst (λ (z : Reading). Fits pr (r0 turn) z)
      (sym (ap (λ (x : OwnHalf). R turn (stands_so k x) (hears s v))
      (aside d (EndRecord d None) b q aside_end)
      ∙ ap (λ x. R turn (stands_so x q) (hears s v)) (f ∙ (stays_closed closed ∙ sym closed))))
      (Moves.acknowledges_settled pr (r0 turn) inv
      (record { up = up; settled = settled_by closed o (coordinator_view place n d).standing refl i })))
