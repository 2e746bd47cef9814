-- Faults after the records of the pair's own case, on the pair.
use Rattle.std.proofs.Common.{◌≡◌, ◌∙◌, inl, inr, ℕ, Bool, true, false, ◌&&◌, not, Some, None, List, [], ◌∷◌, take, refl, sym, ap, subst}
use Rattle.protocol.specs.declared.names.ProcessId.{ProcessId}
use Rattle.protocol.specs.declared.names.Ticket.{Ticket}
use Rattle.protocol.specs.declared.names.Presumption.{Presumption}
use Rattle.protocol.specs.declared.names.Presumption.TheVariants.{PresumeAbort, PresumeCommit}
use Rattle.protocol_words.specs.Variants.{AbortRecord, CollectingRecord, CommitRecord, EndRecord, PrepareRecord, VoteNo}
use Rattle.protocol.specs.declared.standings.Standing.TheVariants.{Active, Collecting}
use Rattle.protocol.specs.declared.standings.Vote.{Vote}
use Rattle.protocol.specs.Names.{same_ticket}
use Rattle.protocol.specs.Records.{has, in_list, is_prepare, none_of}
use Rattle.protocol.specs.Nodes.{Effect, entries_written, fails_in, kept}
use Rattle.protocol.specs.Memory.{Memory, Asked, Over, undecided_of}
use Rattle.protocol.specs.CoordinatorRows.{Row, Reason, ByVote, active_commit_with, collecting_abort_by}
use Rattle.protocol.specs.Reactions.{row_effect, seat_of}
use Rattle.protocol.specs.Standings.{CoordinatorView}
use Rattle.proof_pairs.specs.Reading.{Reading, is_live}
use Rattle.proof_pairs.specs.ParentCrash
use Rattle.proof_pairs.specs.readings.ReadingOf.{ParentHalf, Wire}
use Rattle.proof_pairs.proofs.readings.Named.{in_list-none}
use Rattle.proof_pairs.specs.turns.CoordinatorTurns.{IsToCommit, IsToAbort, CountsVote, CountsLast, voted}
use Rattle.proof_processes.specs.WorldHolds.{InOrder}
use Rattle.proof_steps.proofs.parents.FaultHears.{Hears}
use Rattle.proof_steps.proofs.parents.FaultOwn
use Rattle.proof_steps.proofs.parents.FaultReadings
use Rattle.proof_steps.proofs.parents.FaultTurns.{left_one, none_written, nothing_as, one_written, record_appended}
use Rattle.proof_steps.proofs.parents.Faults.{Fault_fine, down, heard_so}
use Rattle.proof_steps.proofs.parents.Moves
use Rattle.proof_steps.proofs.parents.Own
use Rattle.proof_steps.proofs.parents.Own.{Goes, heard}
use Rattle.proof_steps.proofs.parents.OwnAborts
use Rattle.proof_steps.proofs.parents.OwnActive as active
use Rattle.proof_steps.proofs.parents.OwnMoves.{and_then, read_as, up_part}
use Rattle.proof_steps.proofs.parents.OwnVotes
use Rattle.proof_steps.proofs.parents.Readings.{Live}
use Rattle.proof_steps.proofs.parents.Turns.{Turn, Fits_in, seen, remembered, half, net_part, told_outcome, reading, at_root}
use Rattle.proof_steps.proofs.parents.Votes
use Rattle.proof_steps.proofs.parents.Writes.{wrote}

module _ (turn : Turn) where
  open turn use {place, parent, n, h, net, c, t, manager, above, k, up, inv, nested}

  abbrev m : Memory
  m = remembered turn

  abbrev p0 : ParentHalf
  p0 = half turn

  abbrev v0 : Wire
  v0 = net_part turn

  abbrev o0 : Bool
  o0 = told_outcome turn

  abbrev root : Bool
  root = at_root turn

  abbrev v : CoordinatorView
  v = Own.v turn

  abbrev promised : Bool
  promised = has (is_prepare c) n.life

  abbrev Ordered : Row → ℕ → ℕ → Type 0
  Ordered row x f = InOrder c (kept (fails_in n h (row_effect c row) x f))

  abbrev Fails : Row → ℕ → ℕ → Type 0
  Fails row x f = Fault_fine turn (row_effect c row) x f

  abbrev X : Bool → ParentHalf → Reading
  X b q = FaultReadings.X manager above k c t b o0 q v0

  at_literal : (b : Bool) → root ≡ b → (P : Bool → Type 0) → P b → P root
  at_literal b e P x = subst P (sym e) x

  -- Collecting.

  pub asks_for_votes : (p : Presumption) → IsToCommit parent h c → v.standing ≡ Active
      → none_of v.accepted ≡ false
      → c.txn.presumption ≡ p → (x f : ℕ) → Ordered (active_commit_with (seat_of place parent c) v p) x f
      → Fails (active_commit_with (seat_of place parent c) v p) x f
  asks_for_votes PresumeAbort i e g q x f order =
      let row = active_commit_with (seat_of place parent c) v PresumeAbort in
      none_written turn (row_effect c row) x f order refl
      (FaultOwn.plain_goes turn row Asked (FaultOwn.active_live turn e)
      (active.asks_says turn i e g) refl refl)
  asks_for_votes PresumeCommit i e g q x f order =
      let row = active_commit_with (seat_of place parent c) v PresumeCommit in
      one_written turn (row_effect c row) x f order (CollectingRecord c v.accepted) refl
      (FaultOwn.plain_goes turn row Asked (FaultOwn.active_live turn e)
      (active.asks_says turn i e g) refl refl)
      (λ one. record_appended turn (row_effect c row) x f order (CollectingRecord c v.accepted) one
      (λ j. refl) Asked p0.accepted p0.acked
      (active.asks_says turn i e g) p0 refl
      (read_as turn _ _
      (FaultReadings.fails-collects manager above k c t root o0 promised v.accepted p0 v0
      (active.alive turn e)
      (active.accepted_in_view turn e)
      (active.no_collects turn e q))
      (Moves.fails_to_collect c.txn.presumption q (reading turn) inv
      (record { active = active.active_phase turn e }))))

  -- The last vote.

  module _ (u : Ticket) (w : Vote) (ys : List Ticket) (l : CountsLast place n h c u w ys) where
    abbrev p1 : ParentHalf
    p1 = heard w (same_ticket u t) p0

    abbrev r1 : Reading
    r1 = seen turn o0 p1 v0

    abbrev goes : Goes turn Over
    goes = OwnVotes.ends_votes turn u w ys l

    vote_hears : (e : Effect) → e.accepts ≡ [] → e.counts ≡ (c, (u, w)) ∷ [] → Hears turn e
    vote_hears e none one = FaultOwn.vote_goes turn e u w l.vote l.consents none one Over
        (OwnVotes.ends_votes turn u w ys l) refl

    pub reads_only : (p : Presumption) → none_of ys ≡ true → c.txn.presumption ≡ p → (x f : ℕ)
        → Ordered (OwnVotes.read_row turn u w ys l p) x f
        → Fails (OwnVotes.read_row turn u w ys l p) x f
    reads_only PresumeAbort none q x f order =
        none_written turn (row_effect c (OwnVotes.read_row turn u w ys l PresumeAbort)) x f order refl
        (vote_hears _ refl refl)
    reads_only PresumeCommit none q x f order =
        let e = row_effect c (OwnVotes.read_row turn u w ys l PresumeCommit) in
        let fits = OwnVotes.heard_it turn u w ys l in
        one_written turn e x f order (EndRecord c None) refl (vote_hears e refl refl)
        (λ one. record_appended turn e x f order (EndRecord c None) one (λ j. refl) Over p0.accepted p0.acked
        (OwnVotes.ends_votes turn u w ys l) p1
        (FaultOwn.heard_vote turn e u w refl refl)
        (read_as turn _ _ (FaultReadings.fails-ends_read_only manager above k c t root o0 promised p1 v0
        (OwnVotes.alive turn u w ys l))
        (and_then turn r1 _ fits
        (Moves.fails_to_end_read_only c.txn.presumption q r1 fits.invariant
        (record {
          waiting = Votes.phase turn u w l.vote;
          all_read =
              OwnVotes.all_read turn u w ys l none;
        })))))

    pub commits : (p : Presumption) → parent ≡ None → c.txn.presumption ≡ p → (x f : ℕ)
        → Ordered (OwnVotes.commit_row turn u w ys l p) x f → Fails (OwnVotes.commit_row turn u w ys l p) x f
    commits PresumeAbort s q x f order =
        let e = row_effect c (OwnVotes.commit_row turn u w ys l PresumeAbort) in
        let fits = OwnVotes.heard_it turn u w ys l in
        Own.seat_is turn
        (λ s' is_root. one_written turn e x f order (CommitRecord c ys) refl (vote_hears e refl refl)
        (λ one. record_appended turn e x f order (CommitRecord c ys) one (λ j. refl) Over p0.accepted
        p0.acked (OwnVotes.ends_votes turn u w ys l) p1
        (FaultOwn.heard_vote turn e u w refl refl)
        (read_as turn _ _
        (at_literal true is_root (λ b. Live b o0 p1 v0
        → X b (down p1.accepted p1.acked true (wrote (CommitRecord c ys) c t promised p1))
        ≡ ParentCrash.fails_to_decide_naming (X b p1))
        (λ y. FaultReadings.fails-decides_naming manager above k c t o0 promised ys p1 v0 y
        (OwnVotes.yes_names turn u w ys l) (OwnVotes.no_owed turn u w ys l q))
        (OwnVotes.alive turn u w ys l))
        (and_then turn r1 _ fits
        (Moves.fails_to_decide_naming c.txn.presumption q r1 fits.invariant
        (record {
          root = is_root;
          waiting = Votes.phase turn u w l.vote;
          all_voted = Votes.has_vote turn u
              w l.vote l.consents (OwnVotes.all turn u w ys l);
        }))))))
        (λ p s' is_below. absurd (let z = sym s ∙ s' in cc))
    commits PresumeCommit s q x f order =
        let e = row_effect c (OwnVotes.commit_row turn u w ys l PresumeCommit) in
        let fits = OwnVotes.heard_it turn u w ys l in
        Own.seat_is turn
        (λ s' is_root. one_written turn e x f order (CommitRecord c []) refl (vote_hears e refl refl)
        (λ one. record_appended turn e x f order (CommitRecord c []) one (λ j. refl) Over p0.accepted
        p0.acked (OwnVotes.ends_votes turn u w ys l) p1
        (FaultOwn.heard_vote turn e u w refl refl)
        (read_as turn _ _
        (at_literal true is_root (λ b. Live b o0 p1 v0
        → X b (down p1.accepted p1.acked true (wrote (CommitRecord c []) c t promised p1))
        ≡ ParentCrash.fails_to_decide (X b p1))
        (λ y. FaultReadings.fails-decides manager above k c t o0 promised p1 v0 y)
        (OwnVotes.alive turn u w ys l))
        (and_then turn r1 _ fits
        (Moves.fails_to_decide c.txn.presumption q r1 fits.invariant
        (record {
          root = is_root;
          waiting = Votes.phase turn u w l.vote;
          all_voted = Votes.has_vote turn u
              w l.vote l.consents (OwnVotes.all turn u w ys l);
        }))))))
        (λ p s' is_below. absurd (let z = sym s ∙ s' in cc))

    pub promises : (p : ProcessId) → parent ≡ Some p → (x f : ℕ)
        → Ordered (OwnVotes.promise_row turn u w ys l) x f
        → Fails (OwnVotes.promise_row turn u w ys l) x f
    promises p s x f order =
        let e = row_effect c (OwnVotes.promise_row turn u w ys l) in
        let fits = OwnVotes.heard_it turn u w ys l in
        Own.seat_is turn
        (λ s' is_root. absurd (let z = sym s ∙ s' in cc))
        (λ p' s' is_below. one_written turn e x f order (PrepareRecord c ys) refl (vote_hears e refl refl)
        (λ one. record_appended turn e x f order (PrepareRecord c ys) one (λ j. refl) Over p0.accepted
        p0.acked (OwnVotes.ends_votes turn u w ys l) p1
        (FaultOwn.heard_vote turn e u w refl refl)
        (read_as turn _ _
        (at_literal false is_below (λ b. Live b o0 p1 v0
        → X b (down p1.accepted p1.acked true (wrote (PrepareRecord c ys) c t promised p1))
        ≡ ParentCrash.fails_to_promise_up (X b p1))
        (λ y. FaultReadings.fails-promises manager above k c t o0 promised ys p1 v0 y
        (OwnVotes.yes_names turn u w ys l) (OwnVotes.no_names turn u w ys l))
        (OwnVotes.alive turn u w ys l))
        (and_then turn r1 _ fits
        (Moves.fails_to_promise_up c.txn.presumption r1 fits.invariant
        (record {
          cascaded = is_below;
          waiting = Votes.phase turn u w l.vote;
          takes_part = up_part turn is_below (OwnVotes.asked_takes_part turn
              (Votes.asked turn u w l.vote) p s);
          all_voted = Votes.has_vote turn u w l.vote l.consents (OwnVotes.all turn u w ys l);
        }))))))

  -- Aborts.

  aborts_by : (row : Row) → Goes turn Over → m.phase ≡ Asked → (us : List Ticket)
      → in_list us t ≡ (p0.accepted && not p0.first_read)
      → heard_so (row_effect c row) c t p0 ≡ p0
      → (p : Presumption) → c.txn.presumption ≡ p
      → entries_written row.written
      ≡ entries_written (collecting_abort_by (seat_of place parent c) ByVote v us p).written
      → (x f : ℕ) → Ordered row x f → Fails row x f
  aborts_by row goes a us named is PresumeAbort q one x f order =
      one_written turn (row_effect c row) x f order (AbortRecord c []) one
      (FaultOwn.plain_goes turn row Over (ap is_live (OwnAborts.phase turn a)) goes refl is)
      (λ all. record_appended turn (row_effect c row) x f order (AbortRecord c []) all (λ j. refl) Over
      p0.accepted p0.acked goes p0 is
      (read_as turn _ _ (FaultReadings.fails-aborts manager above k c t root o0 promised p0 v0
      (Own.live turn (inr a)))
      (Moves.fails_to_abort c.txn.presumption q (reading turn) inv
      (record { waiting = OwnAborts.phase turn a }))))
  aborts_by row goes a us named is PresumeCommit q one x f order =
      one_written turn (row_effect c row) x f order (AbortRecord c us) one
      (FaultOwn.plain_goes turn row Over (ap is_live (OwnAborts.phase turn a)) goes refl is)
      (λ all. record_appended turn (row_effect c row) x f order (AbortRecord c us) all (λ j. refl) Over
      p0.accepted p0.acked goes p0 is
      (read_as turn _ _
      (FaultReadings.fails-aborts_naming manager above k c t root o0 promised us p0 v0 (Own.live turn (inr a))
      named (OwnAborts.no_owed turn a q))
      (Moves.fails_to_abort_naming c.txn.presumption q (reading turn) inv
      (record { waiting = OwnAborts.phase turn a }))))

  pub aborts_at : (why : Reason) (us : List Ticket) (p : Presumption) → IsToAbort parent h c why
      → v.standing ≡ Collecting
      → undecided_of v.accepted v.votes ≡ us → c.txn.presumption ≡ p → (x f : ℕ)
      → Ordered (collecting_abort_by (seat_of place parent c) why v us p) x f
      → Fails (collecting_abort_by (seat_of place parent c) why v us p) x f
  aborts_at why us PresumeAbort i e g q x f order =
      let a = Own.collecting_asked turn e in
      aborts_by (collecting_abort_by (seat_of place parent c) why v us PresumeAbort)
      (Own.to_abort turn why i (inr a)) a us
      (OwnAborts.told_now turn a e us g) refl PresumeAbort q refl x f order
  aborts_at why us PresumeCommit i e g q x f order =
      let a = Own.collecting_asked turn e in
      aborts_by (collecting_abort_by (seat_of place parent c) why v us PresumeCommit)
      (Own.to_abort turn why i (inr a)) a us
      (OwnAborts.told_now turn a e us g) refl PresumeCommit q refl x f order

  -- The first NO.

  module _ (u : Ticket) (us : List Ticket) (i : CountsVote place n h c u VoteNo)
      (g : undecided_of v.accepted (voted v u VoteNo).votes ≡ us) where
    abbrev no_row : Presumption → Row
    no_row p = OwnAborts.no_row turn u us i g p

    heard_it : (p : Presumption) → heard_so (row_effect c (no_row p)) c t p0
        ≡ heard VoteNo (same_ticket u t) p0
    heard_it PresumeAbort = FaultOwn.heard_vote turn (row_effect c (no_row PresumeAbort)) u VoteNo refl refl
    heard_it PresumeCommit = FaultOwn.heard_vote turn (row_effect c (no_row PresumeCommit)) u VoteNo refl refl

    heard_by : (p : Presumption) (b : Bool) → same_ticket u t ≡ b
        → heard_so (row_effect c (no_row p)) c t p0 ≡ heard VoteNo b p0
    heard_by p b e = heard_it p ∙ ap (λ x. heard VoteNo x p0) e

    live : Live root o0 p0 v0
    live = Own.live turn (inr (OwnAborts.a turn u us i g))

    at_no : same_ticket u t ≡ true
        → Fits_in turn (seen turn o0 (down p0.accepted p0.acked true (record p0 { first_no = true })) v0)
    at_no e =
        read_as turn _ _ (FaultReadings.fails-at_no manager above k c t root o0 p0 v0 live)
        (Moves.fails_at_no c.txn.presumption (reading turn) inv (OwnAborts.may_hear turn u us i g e))

    behind_no : (vs : List Ticket) → in_list vs t ≡ false → same_ticket u t ≡ true
        → Fits_in turn (seen turn o0 (down p0.accepted p0.acked true
        (wrote (AbortRecord c vs) c t promised (record p0 { first_no = true }))) v0)
    behind_no vs none e =
        read_as turn _ _ (FaultReadings.fails-hears_no manager above k c t root o0 promised vs
        p0 v0 live none)
        (Moves.fails_to_hear_no c.txn.presumption (reading turn) inv (OwnAborts.may_hear turn u us i g e))

    its_fault : (p : Presumption) (vs : List Ticket) → entries_written (no_row p).written
        ≡ AbortRecord c vs ∷ []
        → in_list vs t ≡ false → same_ticket u t ≡ true
        → (x f : ℕ) → Ordered (no_row p) x f → Fails (no_row p) x f
    its_fault p vs one none e x f order = elim (left_one x (AbortRecord c vs)) [
      | inl nothing ↦ nothing_as turn (row_effect c (no_row p)) x f order
          (ap (λ l. take x l) one ∙ nothing) Over p0.accepted p0.acked
          (OwnAborts.goes turn u us i g)
          (record p0 { first_no = true }) (heard_by p true e) (at_no e)
      | inr all ↦ record_appended turn (row_effect c (no_row p)) x f order (AbortRecord c vs)
          (ap (λ l. take x l) one ∙ all) (λ j. refl) Over
          p0.accepted p0.acked (OwnAborts.goes turn u us i g) (record p0 { first_no = true })
          (heard_by p true e) (behind_no vs none e)
    ]

    by_whom : (b : Bool) → same_ticket u t ≡ b → (p : Presumption) → c.txn.presumption ≡ p → (x f : ℕ)
        → Ordered (no_row p) x f
        → Fails (no_row p) x f
    by_whom true e PresumeAbort q x f order =
        its_fault PresumeAbort [] refl (in_list-none t) e x f order
    by_whom true e PresumeCommit q x f order = its_fault PresumeCommit us refl
        (OwnAborts.not_told turn u us i g e) e x f order
    by_whom false e PresumeAbort q x f order =
        aborts_by (no_row PresumeAbort) (OwnAborts.goes turn u us i g) (OwnAborts.a turn u us i g) us
        (OwnAborts.told_others turn u us i g e)
        (heard_by PresumeAbort false e) PresumeAbort q refl x f order
    by_whom false e PresumeCommit q x f order =
        aborts_by (no_row PresumeCommit) (OwnAborts.goes turn u us i g) (OwnAborts.a turn u us i g) us
        (OwnAborts.told_others turn u us i g e)
        (heard_by PresumeCommit false e) PresumeCommit q refl x f order

    pub hears_no : (p : Presumption) → c.txn.presumption ≡ p → (x f : ℕ) → Ordered (no_row p) x f
        → Fails (no_row p) x f
    hears_no p q x f order = by_whom (same_ticket u t) refl p q x f order
