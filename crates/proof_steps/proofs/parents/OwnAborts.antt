-- Aborts at the pair's own case while it collects votes, on the pair.
use Rattle.std.proofs.Common.{◌≡◌, ◌∙◌, inl, inr, Bool, true, false, ◌||◌, ◌&&◌, not, List, [], ◌∷◌, ◌++◌, filter, refl, sym, ap, arith, if◌then◌else◌}
use Rattle.protocol.specs.Nodes.{Version, First, Second}
use Rattle.protocol.specs.declared.names.Ticket.{Ticket}
use Rattle.protocol.specs.declared.names.Presumption.{Presumption}
use Rattle.protocol.specs.declared.names.Presumption.TheVariants.{PresumeAbort, PresumeCommit}
use Rattle.protocol.specs.declared.messages.Message.TheVariants.{Abort}
use Rattle.protocol_words.specs.Variants.{AbortRecord, VoteNo, VoteRead, VoteYes}
use Rattle.protocol.specs.declared.standings.Standing.TheVariants.{Collecting}
use Rattle.protocol.specs.declared.standings.Vote.{Vote}
use Rattle.protocol.specs.Names.{same_ticket}
use Rattle.protocol.specs.NameLaws.{same_txn-refl, same_ticket_tells}
use Rattle.protocol.specs.Records.{has, in_list, is_prepare, none_of}
use Rattle.protocol.specs.declared.messages.Envelope.{Envelope}
use Rattle.protocol.specs.Memory.{Memory, Asked, Over, undecided_of, voted_so}
use Rattle.protocol.specs.CoordinatorRows.{Row, Reason, ByVote, ByAct, ByAbort, each, collecting_abort_by, abort_heard_above}
use Rattle.protocol.specs.Reactions.{row_effect, seat_of}
use Rattle.protocol.specs.Standings.{CoordinatorView}
use Rattle.proof_pairs.specs.Reading as pair
use Rattle.proof_pairs.specs.Reading.{Reading}
use Rattle.proof_pairs.specs.ParentMoves
use Rattle.proof_pairs.specs.readings.ReadingOf.{ParentHalf, Wire, wire}
use Rattle.proof_pairs.specs.turns.CoordinatorTurns.{CountsVote, IsToAbort, voted, counting}
use Rattle.proof_processes.specs.WorldHolds.{InvariantOf}
use Rattle.proof_steps.proofs.parents.Known.{clash}
use Rattle.proof_steps.proofs.parents.Moves
use Rattle.proof_steps.proofs.parents.Own
use Rattle.proof_steps.proofs.parents.Own.{Goes, told_so, heard}
use Rattle.proof_steps.proofs.parents.OwnActive.{acknowledged_up}
use Rattle.proof_steps.proofs.parents.OwnMoves.{own_forced, own_plain, forced_first, and_then, read_as}
use Rattle.proof_steps.proofs.parents.OwnQuiet.{After, not_childs}
use Rattle.proof_steps.proofs.parents.Readings
use Rattle.proof_steps.proofs.parents.Readings.{Live}
use Rattle.proof_steps.proofs.parents.Turns.{Turn, Fine, remembered, half, net_part, told_outcome, reading, at_root}
use Rattle.proof_steps.proofs.parents.Votes
use Rattle.proof_steps.proofs.parents.Wires
use Rattle.proof_steps.proofs.parents.Wires.{Silent, silent_before}
use Rattle.proof_steps.proofs.parents.Writes.{did}

-- Whom a part of a list has.

pub in_filter : (f : Ticket → Bool) (ts : List Ticket) (t : Ticket) → in_list (filter f ts) t
    ≡ (in_list ts t && f t)
unfolding in_list
in_filter f [] t = refl
in_filter f (u ∷ us) t = by_test (f u) refl (same_ticket u t) refl (in_filter f us t)
  where
    there : (x y : Bool) → (x || (y && x)) ≡ ((true || y) && x)
    there x y = grind arith

    by_test : (b : Bool) → f u ≡ b → (s : Bool) → same_ticket u t ≡ s
        → in_list (filter f us) t ≡ (in_list us t && f t)
        → in_list (if b then u ∷ filter f us else filter f us) t ≡ ((s || in_list us t) && f t)
    by_test b e true g k = here b
        (elim (same_ticket_tells u t) [ inl z ↦ sym (ap f z.1) ∙ e | inr z ↦ clash (same_ticket u t) g z.0 ])
      where
        here : (b : Bool) → f t ≡ b → in_list (if b then u ∷ filter f us else filter f us) t
            ≡ ((true || in_list us t) && f t)
        here true q = rw (g, q) refl
        here false q = k ∙ rw q (none (in_list us t))
          where
            none : (a : Bool) → (a && false) ≡ false
            none true = refl
            none false = refl
    by_test true e false g k = rw g k
    by_test false e false g k = k

in_undecided : (ts : List Ticket) (vs : List (Ticket × Vote)) (t : Ticket)
    → in_list (undecided_of ts vs) t
    ≡ (in_list ts t && (not (voted_so VoteNo vs t) && not (voted_so VoteRead vs t)))
unfolding undecided_of
in_undecided ts vs t = in_filter _ ts t

and-false : (a : Bool) → (a && false) ≡ false
and-false a = grind arith

module _ (turn : Turn) where
  open turn use {place, parent, n, h, net, c, t, manager, above, k, up, inv, holds}

  abbrev p0 : ParentHalf
  p0 = half turn

  abbrev v0 : Wire
  v0 = net_part turn

  abbrev o0 : Bool
  o0 = told_outcome turn

  abbrev root : Bool
  root = at_root turn

  abbrev v : CoordinatorView
  v = Own.v turn

  abbrev m : Memory
  m = remembered turn

  abbrev promised : Bool
  promised = has (is_prepare c) n.life

  abbrev told : Bool
  told = p0.accepted && not p0.first_read

  none_or : (b : Bool) (ls : List Envelope) → Silent c t net ls → Silent c t net (if b then ls else [])
  none_or true ls f = f
  none_or false ls f = simp (Wires.sent-none)

  pub heard_up : (why : Reason) (us : List Ticket)
      → Silent c t net (abort_heard_above (seat_of place parent c) why us)
  heard_up ByVote us = Wires.silent-no c t net place.me parent c (not_childs turn)
  heard_up ByAct us = simp (Wires.sent-none)
  heard_up (ByAbort First) us = acknowledged_up turn c.txn.presumption
  heard_up (ByAbort Second) us = none_or (none_of us) _ (acknowledged_up turn c.txn.presumption)

  pub aborts_to : (why : Reason) (us : List Ticket) (b : Bool) → in_list us t ≡ b
      → wire c t (net ++ (abort_heard_above (seat_of place parent c) why us ++ each (seat_of place parent c)
      Abort us))
      ≡ record v0 { abort = b || v0.abort }
  aborts_to why us b e =
      silent_before c t net (abort_heard_above (seat_of place parent c) why us)
      (each (seat_of place parent c) Abort us) (heard_up why us)
      ∙ Wires.wire-aborts c t net (seat_of place parent c) us b (rw (same_txn-refl c.txn) e)

  pub phase : m.phase ≡ Asked → p0.phase ≡ pair.Collecting
  phase a = Own.phase_is turn Asked pair.Collecting a refl

  pub no_owed : m.phase ≡ Asked → c.txn.presumption ≡ PresumeCommit → p0.owed ≡ false
  no_owed a q = by_test p0.owed refl
    where
      stands_for : (pr : Presumption) → pr ≡ PresumeCommit → InvariantOf pr (reading turn) → p0.owed
          ≡ true → p0.abort_kept ≡ true
      stands_for PresumeCommit e j x = j.owed_stands x
      stands_for PresumeAbort e j x = absurd (cc)

      by_test : (b : Bool) → p0.owed ≡ b → p0.owed ≡ false
      by_test false x = x
      by_test true x = clash p0.abort_kept (stands_for c.txn.presumption q inv x)
          ((Own.common turn).undecided (ap pair.is_live (phase a))).no_abort

  -- the half is as before, and an Abort was written, by the presumption
  aborts_by : (row : Row) → After turn row → Goes turn Over → m.phase ≡ Asked → (us : List Ticket)
      → in_list us t ≡ told
      → did (row_effect c row) c t p0 ≡ told_so false root p0
      → wire c t (net ++ row.messages) ≡ record v0 { abort = told || v0.abort }
      → (p : Presumption) → c.txn.presumption ≡ p
      → row.written ≡ (collecting_abort_by (seat_of place parent c) ByAct v us p).written
      → Fine turn (row_effect c row)
  aborts_by row later goes a us named d w PresumeAbort q one =
      own_plain turn row later Over goes _ w (told_so false root p0) d (AbortRecord c []) (λ j. refl) one
      (read_as turn _ _ (Readings.reading-aborts manager above k c t root o0 promised p0 v0
      (Own.live turn (inr a)))
      (Moves.aborts c.txn.presumption q (reading turn) inv (record { waiting = phase a })))
  aborts_by row later goes a us named d w PresumeCommit q one =
      let first = forced_first turn in
      own_forced turn row later Over goes _ w (told_so false root p0) d (AbortRecord c us) (λ j. refl) one
      (read_as turn _ _
      (Readings.reading-aborts_forced manager above k c t root o0 promised us p0 v0
      (Own.live turn (inr a)) named (no_owed a q))
      (and_then turn (ParentMoves.hardens_parent (reading turn)) _ first
      (Moves.aborts_forced c.txn.presumption q (ParentMoves.hardens_parent (reading turn)) first.invariant
      (record { waiting = phase a }))))

  -- By an act, or by ABORT.

  abbrev abort_row : Reason → List Ticket → Presumption → Row
  abort_row why us p = collecting_abort_by (seat_of place parent c) why v us p

  nobody_said_no : m.phase ≡ Asked → p0.first_no ≡ false
  nobody_said_no a = ((Own.common turn).undecided (ap pair.is_live (phase a))).no_first_no

  pub told_now : m.phase ≡ Asked → v.standing ≡ Collecting → (us : List Ticket)
      → undecided_of v.accepted v.votes ≡ us → in_list us t ≡ told
  told_now a e us f =
      let no_no : voted_so VoteNo m.votes t ≡ false = sym (holds.votes up c t VoteNo (inr a))
      ∙ nobody_said_no a in
      let reads : voted_so VoteRead m.votes t ≡ p0.first_read = sym (holds.votes up c t VoteRead (inr a)) in
      ap (λ ts. in_list ts t) (sym f)
      ∙ (ap (λ ts. in_list (undecided_of ts v.votes) t) (Own.collecting_accepted turn e)
      ∙ (ap (λ vs. in_list (undecided_of m.accepted vs) t) (Own.collecting_votes turn e)
      ∙ (in_undecided m.accepted m.votes t ∙ rw (no_no, reads) refl)))

  pub aborts : (why : Reason) (us : List Ticket) (p : Presumption) → IsToAbort parent h c why → v.standing
      ≡ Collecting
      → undecided_of v.accepted v.votes ≡ us → c.txn.presumption ≡ p → After turn (abort_row why us p)
      → Fine turn (row_effect c (abort_row why us p))
  aborts why us PresumeAbort i e f q later =
      let a = Own.collecting_asked turn e in
      let named = told_now a e us f in
      aborts_by (abort_row why us PresumeAbort) later (Own.to_abort turn why i (inr a)) a us named
      (Own.did_tell turn (row_effect c (abort_row why us PresumeAbort)) false root p0 refl refl
      (Own.abort_no_commit turn) (Own.told_aborted turn))
      (aborts_to why us told named) PresumeAbort q refl
  aborts why us PresumeCommit i e f q later =
      let a = Own.collecting_asked turn e in
      let named = told_now a e us f in
      aborts_by (abort_row why us PresumeCommit) later (Own.to_abort turn why i (inr a)) a us named
      (Own.did_tell turn (row_effect c (abort_row why us PresumeCommit)) false root p0 refl refl
      (Own.abort_no_commit turn) (Own.told_aborted turn))
      (aborts_to why us told named) PresumeCommit q refl

  -- By the first NO.

  module _ (u : Ticket) (us : List Ticket) (i : CountsVote place n h c u VoteNo)
      (f : undecided_of v.accepted (voted v u VoteNo).votes ≡ us) where
    abbrev its : Bool
    its = same_ticket u t

    abbrev pub no_row : Presumption → Row
    no_row p = counting u VoteNo (collecting_abort_by (seat_of place parent c) ByVote (voted v u VoteNo) us p)

    pub a : m.phase ≡ Asked
    a = Votes.asked turn u VoteNo i

    in_them : in_list us t ≡ (p0.accepted &&
        (not (voted_so VoteNo (Votes.votes turn u VoteNo i) t) && not
        (voted_so VoteRead (Votes.votes turn u VoteNo i) t)))
    in_them =
        ap (λ ts. in_list ts t) (sym f)
        ∙ (ap (λ ts. in_list (undecided_of ts (v.votes ++ (u, VoteNo) ∷ [])) t)
        (Own.collecting_accepted turn i.stands)
        ∙ (ap (λ vs. in_list (undecided_of m.accepted (vs ++ (u, VoteNo) ∷ [])) t)
        (Own.collecting_votes turn i.stands)
        ∙ in_undecided m.accepted (Votes.votes turn u VoteNo i) t))

    pub goes : Goes turn Over
    goes = Votes.vote_says turn u VoteNo i Over refl

    pub did_no : (p : Presumption) → did (row_effect c (no_row p)) c t p0
        ≡ told_so false root (heard VoteNo its p0)
    did_no PresumeAbort = Own.did_vote turn (row_effect c (no_row PresumeAbort)) u VoteNo false root p0
        refl refl (Own.abort_no_commit turn) (Own.told_aborted turn)
    did_no PresumeCommit = Own.did_vote turn (row_effect c (no_row PresumeCommit)) u VoteNo false root p0
        refl refl (Own.abort_no_commit turn) (Own.told_aborted turn)

    did_by : (p : Presumption) (b : Bool) → its ≡ b → did (row_effect c (no_row p)) c t p0
        ≡ told_so false root (heard VoteNo b p0)
    did_by p b e = did_no p ∙ ap (λ x. told_so false root (heard VoteNo x p0)) e

    -- its own
    pub not_told : its ≡ true → in_list us t ≡ false
    not_told e =
        in_them ∙ rw (sym (Votes.heard_now turn u VoteNo i VoteNo), e) (and-false p0.accepted)

    pub may_hear : its ≡ true → ParentMoves.MayHearNo (reading turn)
    may_hear e = record {
      waiting = phase a;
      accepted = Votes.its_accepted turn u VoteNo i e;
      said = Votes.no_said turn u VoteNo i refl e;
      first = (Votes.its_first turn u VoteNo i e VoteYes, Votes.its_first turn u VoteNo i e VoteRead);
    }

    -- another's
    pub told_others : its ≡ false → in_list us t ≡ told
    told_others e =
        in_them ∙ rw (
          sym (Votes.heard_now turn u VoteNo i VoteNo),
          sym
              (Votes.heard_now turn u VoteNo i VoteRead),
          e,
          nobody_said_no a,
        ) refl

    by_whom : (b : Bool) → its ≡ b → (p : Presumption) → c.txn.presumption ≡ p → After turn (no_row p)
        → Fine turn (row_effect c (no_row p))
    by_whom true e PresumeAbort q later =
        own_plain turn (no_row PresumeAbort) later Over goes v0 (aborts_to ByVote us false (not_told e))
        (told_so false root (heard VoteNo true p0)) (did_by PresumeAbort true e) (AbortRecord c [])
        (λ j. refl) refl
        (read_as turn _ _ (Readings.reading-hears_no manager above k c t root o0 promised p0 v0
        (Own.live turn (inr a)))
        (Moves.hears_no c.txn.presumption q (reading turn) inv (may_hear e)))
    by_whom true e PresumeCommit q later =
        let first = forced_first turn in
        own_forced turn (no_row PresumeCommit) later Over goes v0 (aborts_to ByVote us false (not_told e))
        (told_so false root (heard VoteNo true p0)) (did_by PresumeCommit true e) (AbortRecord c us)
        (λ j. refl) refl
        (read_as turn _ _ (Readings.reading-hears_no_forced manager above k c t root o0 promised us p0 v0
        (Own.live turn (inr a)) (not_told e))
        (and_then turn (ParentMoves.hardens_parent (reading turn)) _ first
        (let y = may_hear e in Moves.hears_no_forced c.txn.presumption q
        (ParentMoves.hardens_parent (reading turn)) first.invariant
        (record { waiting = y.waiting; accepted = y.accepted; said = y.said; first = y.first }))))
    by_whom false e PresumeAbort q later =
        aborts_by (no_row PresumeAbort) later goes a us (told_others e) (did_by PresumeAbort false e)
        (aborts_to ByVote us told (told_others e)) PresumeAbort q refl
    by_whom false e PresumeCommit q later =
        aborts_by (no_row PresumeCommit) later goes a us (told_others e) (did_by PresumeCommit false e)
        (aborts_to ByVote us told (told_others e)) PresumeCommit q refl

    pub hears_no : (p : Presumption) → c.txn.presumption ≡ p → After turn (no_row p)
        → Fine turn (row_effect c (no_row p))
    hears_no p q later = by_whom its refl p q later
