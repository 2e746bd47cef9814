-- Turns of the pair's own case that was decided, on the pair: the last ACK, and answers.
use Rattle.std.proofs.Common.{◌≡◌, ◌≢◌, ◌∙◌, ◌⊎◌, inl, inr, Bool, true, false, ◌||◌, ◌&&◌, not, List, [], ◌∷◌, ◌++◌, refl, sym, ap, subst, Option, is_some, Some, None}
use Rattle.protocol.specs.declared.names.Ticket.{Ticket}
use Rattle.protocol.specs.declared.names.Outcome.{Outcome}
use Rattle.protocol_words.specs.Variants.{AbortedOutcome, CommittedOutcome, EndRecord}
use Rattle.protocol.specs.declared.names.Presumption.{Presumption}
use Rattle.protocol.specs.declared.names.Presumption.TheVariants.{PresumeAbort, PresumeCommit}
use Rattle.protocol.specs.declared.messages.Message.TheVariants.{Ack, Inquire}
use Rattle.protocol.specs.declared.standings.Standing.{Standing}
use Rattle.protocol.specs.declared.standings.Standing.TheVariants.{Unknown, Active, Collecting, Committing, Aborting}
use Rattle.protocol.specs.Names.{same_outcome, same_ticket, child_case}
use Rattle.protocol.specs.Records.{has, in_list, none_of, owing_by, is_prepare, in_order}
use Rattle.protocol.specs.Nodes.{Version, First, Second, after, kept, Written, Effect}
use Rattle.protocol.specs.Memory.{Memory, Phase, Idle, Open, Asked, Over, takes_ack, has_acked, first_found}
use Rattle.protocol.specs.CoordinatorRows.{Row, quiet, plain, other_tickets, acknowledges_at_last, ends_with, end_reports, forced}
use Rattle.protocol.specs.Reactions.{row_effect, seat_of}
use Rattle.protocol.specs.Standings.{CoordinatorView, unknown_view, still_owed, found_below}
use Rattle.proof_pairs.specs.Reading.{Reading, is_live}
use Rattle.proof_pairs.specs.Standing as pair
use Rattle.proof_pairs.specs.ParentMoves
use Rattle.proof_pairs.specs.readings.ReadingOf.{ParentHalf, Wire, acknowledged, is_inquiry_message}
use Rattle.proof_pairs.specs.turns.CoordinatorTurns.{HearsChild, HasDecided, AnswersInquiry}
use Rattle.proof_pairs.specs.turns.CoordinatorTurns
use Rattle.proof_processes.specs.WorldHolds.{NamesBy}
use Rattle.proof_processes.proofs.Deliveries.{was_sent}
use Rattle.proof_steps.proofs.parents.Halves.{acked_of, live_phase}
use Rattle.proof_steps.proofs.parents.Known.{clash}
use Rattle.proof_steps.proofs.parents.Memories
use Rattle.proof_steps.proofs.parents.Moves
use Rattle.proof_steps.proofs.parents.Own
use Rattle.proof_steps.proofs.parents.OwnAborts.{in_filter}
use Rattle.proof_steps.proofs.parents.OwnMoves.{and_then, read_as}
use Rattle.proof_steps.proofs.parents.OwnPromised.{not_open, not_asked, phase_stays}
use Rattle.proof_steps.proofs.parents.OwnQuiet.{After, not_childs}
use Rattle.proof_steps.proofs.parents.Quiet.{rested, rest_fits, begun_plain, begun_forced, reading-hardens, DoesNothing}
use Rattle.proof_steps.proofs.parents.Readings
use Rattle.proof_steps.proofs.parents.Rested.{view_so, heard_so, acked_now, has_acked-push}
use Rattle.proof_steps.proofs.parents.Tables.{committing_facts, aborting_facts, UnknownFacts, ended, committed, aborted, unrecorded, unknown_facts, owing_by-naming, none_in}
use Rattle.proof_steps.proofs.parents.Turns.{Turn, Says, Fine, Fits_in, seen, remembered, then_remembered, half, net_part, told_outcome, reading, at_root, fine_plain, fine_forced}
use Rattle.proof_steps.proofs.parents.Wires
use Rattle.proof_steps.proofs.parents.Wires.{Silent, same_children}
use Rattle.proof_steps.proofs.parents.Writes.{stands_so, wrote, begun_after, hardens}
use Rattle.protocol.specs.declared.messages.Finding.{Finding}
use Rattle.protocol.specs.declared.records.Reports.{Reports}

-- the memory with an acknowledgement that is taken
abbrev pub acks_so : Memory → Ticket → Outcome → List Finding → Memory
acks_so m u o fs = record m { acks = m.acks ++ (u, o) ∷ []; found = m.found ++ first_found m u o fs }

acks_late : (m : Memory) (u : Ticket) (o : Outcome) (fs : List Finding) (ph : Phase)
    → (ph ≡ Open → ⊥) → (ph ≡ Asked → ⊥) → takes_ack m u o fs ph ≡ acks_so m u o fs
acks_late m u o fs Open f g = absurd (f refl)
acks_late m u o fs Asked f g = absurd (g refl)
acks_late m u o fs Idle f g = refl
acks_late m u o fs Over f g = refl

in_others : (u : Ticket) (ts : List Ticket) (t : Ticket)
    → in_list (other_tickets u ts) t ≡ (in_list ts t && not (same_ticket u t))
unfolding other_tickets
in_others u ts t = in_filter _ ts t

in_owed : (acks : List (Ticket × Outcome)) (o : Outcome) (ts : List Ticket) (t : Ticket)
    → in_list (still_owed acks o ts) t ≡ (in_list ts t && not (has_acked acks o t))
unfolding still_owed
in_owed acks o ts t = in_filter _ ts t

-- who is among none and was not heard is the last one
last_one : (named heard it : Bool) → ((named && not heard) && not it) ≡ false → named ≡ true
    → (heard || it) ≡ true
last_one true true it e f = refl
last_one true false true e f = refl
last_one true false false e f = absurd (cc)
last_one false heard it e f = absurd (cc)

outcome_refl : (o : Outcome) → same_outcome o o ≡ true
unfolding same_outcome
outcome_refl CommittedOutcome = refl
outcome_refl AbortedOutcome = refl

module _ (turn : Turn) where
  open turn use {place, parent, n, h, net, c, t, manager, above, k, up, inv, holds, stands}

  abbrev p0 : ParentHalf
  p0 = half turn

  abbrev v0 : Wire
  v0 = net_part turn

  abbrev o0 : Bool
  o0 = told_outcome turn

  abbrev root : Bool
  root = at_root turn

  abbrev v : CoordinatorView
  v = Own.v turn

  abbrev m : Memory
  m = remembered turn

  -- the decision's outcome is the one that is acknowledged
  decided_as : (o : Outcome) (s : Standing) → HasDecided o s → v.standing ≡ s → (p : Presumption)
      → c.txn.presumption ≡ p
      → o ≡ acknowledged p
  decided_as _ _ CoordinatorTurns.by_commit e PresumeAbort q = refl
  decided_as _ _ CoordinatorTurns.by_abort e PresumeCommit q = refl
  decided_as _ _ CoordinatorTurns.by_commit e PresumeCommit q =
      let f = committing_facts place n c e in
      clash (none_of (owing_by c (kept n)))
      (subst (λ (x : Presumption). NamesBy x c (kept n)) q (holds.names c) f.commit) f.some
  decided_as _ _ CoordinatorTurns.by_abort e PresumeAbort q =
      let f = aborting_facts place n c e in
      clash (none_of (owing_by c (kept n)))
      ((subst (λ (x : Presumption). NamesBy x c (kept n)) q (holds.names c)).1 f.abort) f.some

  pub late_of : (o : Outcome) (s : Standing) → HasDecided o s → v.standing ≡ s → (m.phase ≡ Open → ⊥)
      × (m.phase ≡ Asked → ⊥)
  late_of _ _ CoordinatorTurns.by_commit e =
      (not_open turn Committing e (λ z. cc), not_asked turn Committing e (λ z. cc))
  late_of _ _ CoordinatorTurns.by_abort e =
      (not_open turn Aborting e (λ z. cc), not_asked turn Aborting e (λ z. cc))

  -- whom the view says that an ACK is owed by
  owed_in : (o : Outcome) (s : Standing) → HasDecided o s → v.standing ≡ s
      → in_list v.owed t ≡ (p0.owed && not (has_acked m.acks o t))
  owed_in _ _ CoordinatorTurns.by_commit e =
      ap (λ (x : CoordinatorView). in_list x.owed t) (view_so place n c Committing e)
      ∙ (in_owed m.acks CommittedOutcome (owing_by c (kept n)) t
      ∙ ap (λ b. b && not (has_acked m.acks CommittedOutcome t)) (owing_by-naming c t (kept n)))
  owed_in _ _ CoordinatorTurns.by_abort e =
      ap (λ (x : CoordinatorView). in_list x.owed t) (view_so place n c Aborting e)
      ∙ (in_owed m.acks AbortedOutcome (owing_by c (kept n)) t
      ∙ ap (λ b. b && not (has_acked m.acks AbortedOutcome t)) (owing_by-naming c t (kept n)))

  pub may_end_commit : (b : Bool) → (s : Standing) → HasDecided CommittedOutcome s → v.standing ≡ s
      → (p0.owed ≡ true → b ≡ true)
      → ParentMoves.MayEndCommit (seen turn o0 (rested turn b) v0)
  may_end_commit b _ CoordinatorTurns.by_commit e f =
      let g = committing_facts place n c e in
      record { decided = record { up = up; decided = g.commit; not_ended = g.no_end }; all_acked = f }

  pub may_end_abort : (b : Bool) → (s : Standing) → HasDecided AbortedOutcome s → v.standing ≡ s
      → (p0.owed ≡ true → b ≡ true)
      → ParentMoves.MayEndAbort (seen turn o0 (rested turn b) v0)
  may_end_abort b _ CoordinatorTurns.by_abort e f =
      let g = aborting_facts place n c e in
      record { decided = record { up = up; decided = g.abort; not_ended = g.no_end }; all_acked = f }

  ends_fits : (b : Bool) → Fits_in turn (seen turn o0 (rested turn b) v0) → (o : Outcome) (p : Presumption)
      → c.txn.presumption ≡ p → o ≡ acknowledged p → HasDecided o v.standing → (p0.owed ≡ true → b ≡ true)
      → Fits_in turn (ParentMoves.ends (seen turn o0 (rested turn b) v0))
  ends_fits b fits o PresumeAbort q e d f =
      and_then turn _ _ fits
      (Moves.ends_commit c.txn.presumption q _ fits.invariant
      (may_end_commit b v.standing (subst (λ (x : Outcome). HasDecided x v.standing) e d) refl f))
  ends_fits b fits o PresumeCommit q e d f =
      and_then turn _ _ fits
      (Moves.ends_abort c.txn.presumption q _ fits.invariant
      (may_end_abort b v.standing (subst (λ (x : Outcome). HasDecided x v.standing) e d) refl f))

  -- what its End reports
  abbrev pub reports : Outcome → List Finding → Option Reports
  reports o fs = end_reports h.version parent (found_below place n c o fs)

  -- an End that reports so
  abbrev pub end_written : Option Reports → List Written
  end_written rep = record { entry = EndRecord c rep; is_forced = is_some rep } ∷ []

  abbrev pub end_row : Outcome → List Finding → Row
  end_row o fs = record (quiet unknown_view) {
    written = ends_with h.version (seat_of place parent c) (found_below place n c o fs);
    messages = acknowledges_at_last h.version (seat_of place parent c) o (found_below place n c o fs);
  }

  at_last : (ver : Version) (o : Outcome) (fs : List Finding)
      → Silent c t net (acknowledges_at_last ver (seat_of place parent c) o fs)
  at_last First o fs = simp (Wires.sent-none)
  at_last Second o fs = Wires.silent-ack c t net place.me parent c (not_childs turn) o (in_order fs)

  -- The last ACK that is owed.

  module _ (u : Ticket) (o : Outcome) (fs : List Finding) (i : HearsChild place n h c u (λ d. Ack d o fs))
      (d : HasDecided o v.standing) (none : none_of (other_tickets u v.owed) ≡ true) where
    -- the pair's ACK was heard before, or is this one
    abbrev pub heard_acks : Bool
    heard_acks = acked_of m c t || heard_so turn u o

    ack_now : then_remembered turn ≡ acks_so m u o fs
    ack_now =
        let late = late_of o v.standing d refl in
        let same = Own.of_txn turn i.txn u i.belongs in
        Memories.ack_comes turn o fs i.txn u i.hears.0 i.hears.1
        ∙ (rw same refl ∙ acks_late m u o fs m.phase late.0 late.1)

    pub ack_says : Says turn m.phase p0.accepted heard_acks
    ack_says = record {
      phase = ap (λ (y : Memory). y.phase) ack_now;
      accepted_so = ap (λ (y : Memory). in_list y.accepted t) ack_now;
      acked_so = ap (λ (y : Memory). acked_of y c t) ack_now
          ∙ has_acked-push m.acks u o (acknowledged c.txn.presumption) t;
    }

    pub ack_fits : Fits_in turn (seen turn o0 (rested turn heard_acks) v0)
    ack_fits =
        rest_fits turn heard_acks
        (acked_now turn i.txn u o fs i.hears.0 i.hears.1 (Own.of_txn turn i.txn u i.belongs)
        (heard_so turn u o) refl)

    pub agrees : o ≡ acknowledged c.txn.presumption
    agrees = decided_as o v.standing d refl c.txn.presumption refl

    pub all_acked : p0.owed ≡ true → heard_acks ≡ true
    all_acked f =
        ap (λ y. has_acked m.acks y t || heard_so turn u o) (sym agrees)
        ∙ (ap (λ y. has_acked m.acks o t || (same_outcome o y && same_ticket u t)) (sym agrees)
        ∙ (ap (λ y. has_acked m.acks o t || (y && same_ticket u t)) (outcome_refl o)
        ∙ last_one p0.owed (has_acked m.acks o t) (same_ticket u t)
        (ap (λ y. y && not (same_ticket u t)) (sym (owed_in o v.standing d refl))
        ∙ (sym (in_others u v.owed t) ∙ none_in (other_tickets u v.owed) t none))
        f))

    abbrev the_end : Effect
    the_end = row_effect c (end_row o fs)

    quiet_else : DoesNothing turn the_end
    quiet_else = record {
      accepts = refl;
      yes_votes = refl;
      no_votes = refl;
      read_votes = refl;
      committed = refl;
      aborted = refl;
      told = refl;
    }

    end_stays : (b x : Bool) (rep : Option Reports) → Fits_in turn (seen turn o0 (rested turn b) v0)
        → (p0.owed ≡ true → b ≡ true)
        → Fits_in turn (seen turn o0 (wrote (EndRecord c rep) c t x (rested turn b)) v0)
    end_stays b x rep fits f =
        read_as turn _ _ (Readings.reading-ended manager above k c t rep root o0 x (rested turn b) v0)
        (ends_fits b fits o c.txn.presumption refl agrees d f)

    -- nothing was found: the End is unforced
    ends_plain : After turn (end_row o fs) → reports o fs ≡ None → Fine turn the_end
    ends_plain later e =
        let x = has (is_prepare c) n.life in
        let one : the_end.written ≡ plain (EndRecord c None) = ap end_written e in
        fine_plain turn the_end later.alike m.phase p0.accepted heard_acks ack_says v0
        (Wires.wire-silent c t net the_end.messages (at_last h.version o (found_below place n c o fs)))
        (EndRecord c None) (λ j. refl) one
        (subst (λ (y : Bool). Fits_in turn
        (seen turn o0 (stands_so false m.phase p0.accepted heard_acks y
        (wrote (EndRecord c None) c t x p0)) v0))
        (sym (begun_plain turn the_end (EndRecord c None) one refl quiet_else))
        (subst (λ (y : ParentHalf). Fits_in turn (seen turn o0 y v0)) (sym (shown heard_acks x))
        (end_stays heard_acks x None ack_fits all_acked)))
      where
        shown : (b x : Bool) → stands_so false m.phase p0.accepted b p0.begun
            (wrote (EndRecord c None) c t x p0)
            ≡ wrote (EndRecord c None) c t x (rested turn b)
        shown b x = rw up refl

    -- else it is forced, and all that stands with it
    ends_forced : After turn (end_row o fs) → (r : Reports) → reports o fs ≡ Some r → Fine turn the_end
    ends_forced later r e =
        let x = has (is_prepare c) n.life in
        let one : the_end.written ≡ forced (EndRecord c (Some r)) = ap end_written e in
        fine_forced turn the_end later.alike m.phase p0.accepted heard_acks ack_says v0
        (Wires.wire-silent c t net the_end.messages (at_last h.version o (found_below place n c o fs)))
        (EndRecord c (Some r)) (λ j. refl) one
        (subst (λ (y : Bool). Fits_in turn
        (seen turn ((root && p0.commit_kept) || o0) (stands_so false m.phase p0.accepted heard_acks y
        (hardens (wrote (EndRecord c (Some r)) c t x p0))) v0))
        (sym (begun_forced turn the_end (EndRecord c (Some r)) one refl quiet_else))
        (subst (λ (y : ParentHalf). Fits_in turn (seen turn ((root && p0.commit_kept) || o0) y v0))
        (sym (shown heard_acks x)) (forced_end heard_acks x ack_fits all_acked)))
      where
        shown : (b x : Bool) → stands_so false m.phase p0.accepted b p0.begun
            (hardens (wrote (EndRecord c (Some r)) c t x p0))
            ≡ hardens (wrote (EndRecord c (Some r)) c t x (rested turn b))
        shown b x = rw up refl

        forced_end : (b x : Bool) → Fits_in turn (seen turn o0 (rested turn b) v0)
            → (p0.owed ≡ true → b ≡ true)
            → Fits_in turn (seen turn ((root && p0.commit_kept) || o0)
            (hardens (wrote (EndRecord c (Some r)) c t x (rested turn b))) v0)
        forced_end b x fits f =
            let q = wrote (EndRecord c (Some r)) c t x (rested turn b) in
            let old = end_stays b x (Some r) fits f in
            read_as turn _ _ (reading-hardens manager above k root o0 q v0)
            (and_then turn (seen turn o0 q v0) _ old
            (Moves.hardens c.txn.presumption (seen turn o0 q v0) old.invariant up))

    pub ends : After turn (end_row o fs) → Fine turn the_end
    ends later = by_reports (reports o fs) refl
      where
        by_reports : (rep : Option Reports) → reports o fs ≡ rep → Fine turn the_end
        by_reports None e = ends_plain later e
        by_reports (Some r) e = ends_forced later r e

  -- Answers.

  pub asked : (u : Ticket) → HearsChild place n h c u Inquire → same_ticket u t ≡ true → v0.inquire ≡ true
  asked u i e =
      was_sent (is_inquiry_message (child_case c.txn t)) net place.me h.input i.hears.0
      (Inquire (child_case i.txn u)) stands i.hears.1
      (same_children i.txn c.txn u t ∙ rw (Own.of_txn turn i.txn u i.belongs, e) refl)

  closed : (s : Standing) → v.standing ≡ s → s ≢ Active → s ≢ Collecting → is_live p0.phase ≡ false
  closed s e f g = ap is_live (phase_stays turn)
      ∙ by_phase m.phase (not_open turn s e f) (not_asked turn s e g)
    where
      by_phase : (ph : Phase) → (ph ≡ Open → ⊥) → (ph ≡ Asked → ⊥) → is_live (live_phase ph) ≡ false
      by_phase Idle x y = refl
      by_phase Over x y = refl
      by_phase Open x y = absurd (x refl)
      by_phase Asked x y = absurd (y refl)

  not_owed : none_of (owing_by c (kept n)) ≡ true → p0.owed ≡ false
  not_owed e = sym (owing_by-naming c t (kept n)) ∙ none_in (owing_by c (kept n)) t e

  pub unknown_abort : (p : Presumption) → c.txn.presumption ≡ p → p ≡ PresumeAbort → v.standing ≡ Unknown
      → pair.IsUnknownUnderAbort (reading turn)
  unknown_abort PresumeCommit q z e = absurd (cc)
  unknown_abort PresumeAbort q z e = record {
    up = up;
    closed = closed Unknown e (λ x. cc) (λ x. cc);
    nothing = by_facts (unknown_facts place n c e);
  }
    where
      by_facts : UnknownFacts p0.end_kept p0.commit_kept p0.abort_kept p0.own_prepare_kept
          p0.collecting_kept (none_of (owing_by c (kept n)))
          → (p0.end_kept ≡ true) ⊎ ((p0.abort_kept ≡ true)
          ⊎ ((p0.commit_kept ≡ false) × (p0.own_prepare_kept ≡ false)))
      by_facts (ended f) = inl f
      by_facts (aborted f g x) = inr (inl g)
      by_facts (unrecorded f g x) = inr (inr (f, g))
      by_facts (committed f g) = clash (none_of (owing_by c (kept n))) g
          ((subst (λ (x : Presumption). NamesBy x c (kept n)) q (holds.names c)).0 f)

  pub unknown_commit : v.standing ≡ Unknown → pair.IsUnknownUnderCommit (reading turn)
  unknown_commit e = record {
    up = up;
    closed = closed Unknown e (λ x. cc) (λ x. cc);
    nothing = by_facts (unknown_facts place n c e);
  }
    where
      by_facts : UnknownFacts p0.end_kept p0.commit_kept p0.abort_kept p0.own_prepare_kept
          p0.collecting_kept (none_of (owing_by c (kept n)))
          → (p0.end_kept ≡ true) ⊎ ((p0.commit_kept ≡ true)
          ⊎ (((p0.abort_kept ≡ true) × (p0.owed ≡ false)) ⊎ (p0.collecting_kept ≡ false)))
      by_facts (ended f) = inl f
      by_facts (committed f g) = inr (inl f)
      by_facts (aborted f g x) = inr (inr (inl (g, not_owed x)))
      by_facts (unrecorded f g x) = inr (inr (inr x))

  -- the outcome was told to the pair's child
  abbrev pub told_wire : Outcome → Wire
  told_wire CommittedOutcome = record v0 { commit = true }
  told_wire AbortedOutcome = record v0 { abort = true }

  abbrev pub reading_told : Outcome → Reading
  reading_told o = seen turn o0 p0 (told_wire o)

  pub answer_fits : (p : Presumption) → c.txn.presumption ≡ p → (s : Standing) → v.standing ≡ s
      → (o : Outcome) → AnswersInquiry p s o
      → v0.inquire ≡ true
      → Fits_in turn (reading_told o)
  answer_fits PresumeAbort q _ e _ (CoordinatorTurns.by_decision p s o CoordinatorTurns.by_commit) a =
      let g = committing_facts place n c e in
      Moves.answers_commit c.txn.presumption q (reading turn) inv
      (record { asked = a; committing = record { up = up; decided = g.commit; not_ended = g.no_end } })
  answer_fits PresumeCommit q _ e _ (CoordinatorTurns.by_decision p s o CoordinatorTurns.by_abort) a =
      let g = aborting_facts place n c e in
      Moves.answers_abort c.txn.presumption q (reading turn) inv
      (record { asked = a; aborting = record { up = up; decided = g.abort; not_ended = g.no_end } })
  answer_fits PresumeCommit q _ e _ (CoordinatorTurns.by_decision p s o CoordinatorTurns.by_commit) a =
      absurd (let x = decided_as CommittedOutcome Committing CoordinatorTurns.by_commit e PresumeCommit q
      in cc)
  answer_fits PresumeAbort q _ e _ (CoordinatorTurns.by_decision p s o CoordinatorTurns.by_abort) a =
      absurd (let x = decided_as AbortedOutcome Aborting CoordinatorTurns.by_abort e PresumeAbort q in cc)
  answer_fits PresumeAbort q _ e _ (CoordinatorTurns.by_presumption p) a =
      Moves.presumes_abort c.txn.presumption q (reading turn) inv
      (record { asked = a; nothing_known = inl (unknown_abort PresumeAbort q refl e) })
  answer_fits PresumeCommit q _ e _ (CoordinatorTurns.by_presumption p) a =
      Moves.presumes_commit c.txn.presumption q (reading turn) inv
      (record { asked = a; nothing_known = inl (unknown_commit e) })
