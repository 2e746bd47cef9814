-- The rows of the pair's case that end the collecting of votes, and ABORT before the promise, keep the pair's
-- invariant.
use Rattle.std.proofs.Common.{◌≡◌, ◌∙◌, inl, ℕ, Bool, true, false, Some, List, [], ◌∷◌, ◌++◌, refl, sym, ap, subst, if◌then◌else◌, None}
use Rattle.protocol.specs.declared.names.Case.{Case}
use Rattle.protocol_words.specs.Variants.{AbortRecord, AbortedOutcome, EndRecord, MessageInput, PrepareRecord, VoteNo}
use Rattle.protocol.specs.declared.names.Presumption.{Presumption}
use Rattle.protocol.specs.declared.names.Presumption.TheVariants.{PresumeAbort, PresumeCommit}
use Rattle.protocol.specs.declared.names.Ticket.{Ticket}
use Rattle.protocol.specs.declared.messages.Message.TheVariants.{Yes, No, Abort, Ack}
use Rattle.protocol.specs.declared.standings.Standing.TheVariants.{Active, Collecting}
use Rattle.protocol.specs.declared.standings.Vote.{Vote}
use Rattle.protocol.specs.declared.events.Input.{Input}
use Rattle.protocol.specs.NameLaws.{same_case-refl}
use Rattle.protocol.specs.Records.{boot_of, has, is_prepare, none_of}
use Rattle.protocol.specs.CoordinatorRows.{Row, ByAbort, ByVote, Seat, acknowledges_abort, active_abort, cascaded_prepares, collecting_abort_by, collecting_read_only, each, post, read_only_end}
use Rattle.protocol.specs.Memory.{cascaded_remembers, memory_of}
use Rattle.protocol.specs.Nodes.{Version, First, Second, Effect, Place, kept}
use Rattle.protocol.specs.Reactions.{row_effect, seat_of}
use Rattle.protocol.specs.Standings.{coordinator_view}
use Rattle.proof_pairs.specs.ChildMoves
use Rattle.proof_pairs.specs.Reading.{Reading}
use Rattle.proof_pairs.specs.readings.ReadingOf.{Wire}
use Rattle.proof_pairs.specs.turns.CoordinatorTurns.{CountsLast, CountsVote, counting, voted}
use Rattle.proof_processes.proofs.Cases.{viewed}
use Rattle.proof_processes.proofs.Phases.{collecting_undecided}
use Rattle.proof_steps.proofs.children.Moves
use Rattle.proof_steps.proofs.children.Moves.{Fits}
use Rattle.proof_steps.proofs.cascades.Closings.{first_closes, last_closes, phase_asked}
use Rattle.proof_steps.proofs.cascades.Halves.{OwnHalf, aborts, aborts_record, aside, hardens, promises, promises_record, stands_so}
use Rattle.proof_steps.proofs.cascades.Messages
use Rattle.proof_steps.proofs.cascades.Messages.{Said, hears, nothing, said_by}
use Rattle.proof_steps.proofs.cascades.Opens
use Rattle.proof_steps.proofs.cascades.Opens.{live}
use Rattle.proof_steps.proofs.cascades.Readings
use Rattle.proof_steps.proofs.cascades.Turns.{Fine, R, Remembered, Then, Turn, own_case, forced_fine, hard, onward, plain_fine, place_in, half_in, r0, silent_fine, wire_in}
use Rattle.proof_steps.proofs.cascades.TurnsVotes.{IsSilent, abort_sent, aborted_issued, asked_issued, at_collecting, may_vote, open_at, read_moves, read_said, said_read, silent_if}

module _ (turn : Turn) where
  open turn use {c, t, p, tree, n, h, net, up, alike, asked, pr, of, root, outcome, above, half, inv}

  abbrev d : Case
  d = own_case turn

  abbrev place : Place
  place = place_in turn

  abbrev q : OwnHalf
  q = half_in turn

  abbrev v : Wire
  v = wire_in turn

  abbrev seat : Seat
  seat = seat_of place (Some p) d

  abbrev b : Bool
  b = has (is_prepare d) n.life

  -- PREPARE was sent to a case that collects
  pub asked_for : (coordinator_view place n d).standing ≡ Collecting → v.prepare ≡ true
  asked_for e = asked (phase_asked t.child p tree n h d alike e)

  pub silent_at : (coordinator_view place n d).standing ≡ Collecting → IsSilent turn
  silent_at e = silent_if turn (asked_issued turn (asked_for e)) (at_collecting turn e)

  -- All read only.

  pub reads_only_own : (u : Ticket) (w : Vote) (ys : List Ticket) (x : Presumption)
      → CountsLast place n h d u w ys
      → Then turn (row_effect d (counting u w (record (collecting_read_only seat)
      { written = read_only_end seat x })))
      → Fine turn (row_effect d (counting u w (record (collecting_read_only seat)
      { written = read_only_end seat x })))
  reads_only_own u w ys PresumeAbort k next =
      silent_fine turn
      (row_effect d (counting u w (record (collecting_read_only seat)
      { written = read_only_end seat PresumeAbort })))
      next refl (said_read turn) (read_said turn)
      (λ o f. read_moves turn (asked_for k.vote.stands) (at_collecting turn k.vote.stands) o
      (f ∙ last_closes t.child p tree n h d alike w u ys k))
  reads_only_own u w ys PresumeCommit k next =
      plain_fine turn
      (row_effect d (counting u w (record (collecting_read_only seat)
      { written = read_only_end seat PresumeCommit })))
      next (EndRecord d None) refl (λ x. refl) (said_read turn) (read_said turn)
      (λ o f. subst (λ (z : OwnHalf). Fits pr (r0 turn) (R turn (stands_so o z) (record v { read = true })))
      (sym (aside d (EndRecord d None) b q (record { no_prepare = refl; no_commit = refl; no_abort = refl })))
      (read_moves turn (asked_for k.vote.stands) (at_collecting turn k.vote.stands) o
      (f ∙ last_closes t.child p tree n h d alike w u ys k)))

  -- The promise.

  yes_said : said_by c t (post t.child p (Yes (own_case turn)) ∷ []) ≡ record nothing { yes = true }
  yes_said = Messages.said_first c t (post t.child p (Yes d)) [] (Messages.none_silent c t)
      ∙ rw (same_case-refl d) refl

  pub promises_own : (u : Ticket) (w : Vote) (ys : List Ticket) → CountsLast place n h d u w ys
      → Then turn (row_effect d (counting u w
      (cascaded_prepares seat (voted (coordinator_view place n d) u w) ys)))
      → Fine turn (row_effect d (counting u w
      (cascaded_prepares seat (voted (coordinator_view place n d) u w) ys)))
  promises_own u w ys k next =
      let stands = k.vote.stands in
      let none = collecting_undecided (kept n) d (memory_of place n d).phase
      (sym (viewed place n d) ∙ stands) in
      let may = may_vote turn (asked_for stands) (at_collecting turn stands) in
      forced_fine turn (row_effect d (counting u w
      (cascaded_prepares seat (voted (coordinator_view place n d) u w) ys)))
      next (PrepareRecord d ys) refl (λ x. refl) (record nothing { yes = true }) yes_said
      (λ o f. subst (λ (z : Reading). Fits pr (r0 turn) z)
      (sym (ap (λ (x : OwnHalf). R turn (stands_so o (hardens x)) (record v { yes = true }))
      (promises_record d ys b q)
      ∙ (ap (λ x. R turn (stands_so x (hardens (promises q))) (record v { yes = true }))
      (f ∙ last_closes t.child p tree n h d alike w u ys k)
      ∙ Readings.reading-yes root outcome above half q v (at_collecting turn stands) none.no_abort)))
      (onward turn (ChildMoves.votes_yes (ChildMoves.hardens_child (r0 turn)))
      (Moves.votes_yes pr (ChildMoves.hardens_child (r0 turn)) (hard turn).invariant
      (record { asked = may.asked; is_open = may.is_open }))))

  -- An Abort before the promise.

  -- with this word, after a record that is not forced
  abort_plain : (e : Effect) → Then turn e → (us : List Ticket)
      → e.written ≡ record { entry = AbortRecord d us; is_forced = false } ∷ []
      → live (Remembered turn).phase ≡ false → (s : Said) → said_by c t e.messages ≡ s → (m : Reading)
      → R turn (stands_so false (aborts b q)) (hears s v) ≡ m → Fits pr (r0 turn) m → Fine turn e
  abort_plain e next us one closes s said m same fits =
      plain_fine turn e next (AbortRecord d us) one (λ x. refl) s said
      (λ o f. subst (λ (z : Reading). Fits pr (r0 turn) z)
      (sym (ap (λ (x : OwnHalf). R turn (stands_so o x) (hears s v)) (aborts_record d us b q)
      ∙ (ap (λ x. R turn (stands_so x (aborts b q)) (hears s v)) (f ∙ closes) ∙ same))) fits)

  abort_forced : (e : Effect) → Then turn e → (us : List Ticket)
      → e.written ≡ record { entry = AbortRecord d us; is_forced = true } ∷ []
      → live (Remembered turn).phase ≡ false → (s : Said) → said_by c t e.messages ≡ s → (m : Reading)
      → R turn (stands_so false (hardens (aborts b q))) (hears s v) ≡ m → Fits pr (r0 turn) m → Fine turn e
  abort_forced e next us one closes s said m same fits =
      forced_fine turn e next (AbortRecord d us) one (λ x. refl) s said
      (λ o f. subst (λ (z : Reading). Fits pr (r0 turn) z)
      (sym (ap (λ (x : OwnHalf). R turn (stands_so o (hardens x)) (hears s v)) (aborts_record d us b q)
      ∙ (ap (λ x. R turn (stands_so x (hardens (aborts b q))) (hears s v)) (f ∙ closes) ∙ same))) fits)

  no_said : (us : List Ticket) → said_by c t (post t.child p (No (own_case turn)) ∷ each seat Abort us)
      ≡ record nothing { no = true }
  no_said us = Messages.said_first c t (post t.child p (No d)) (each seat Abort us)
      (Messages.each_silent c t seat AbortedOutcome us)
      ∙ rw (same_case-refl d) refl

  ack_said : (us : List Ticket) → said_by c t (post t.child p
      (Ack (own_case turn) AbortedOutcome []) ∷ each seat Abort us)
      ≡ record nothing { ack = true }
  ack_said us = Messages.said_first c t (post t.child p (Ack d AbortedOutcome [])) (each seat Abort us)
      (Messages.each_silent c t seat AbortedOutcome us)
      ∙ rw (same_case-refl d) refl

  -- the first NO
  pub hears_no_own : (u : Ticket) (us : List Ticket) (x : Presumption) → CountsVote place n h d u VoteNo
      → Then turn (row_effect d (counting u VoteNo
      (collecting_abort_by seat ByVote (voted (coordinator_view place n d) u VoteNo) us x)))
      → Fine turn (row_effect d (counting u VoteNo
      (collecting_abort_by seat ByVote (voted (coordinator_view place n d) u VoteNo) us x)))
  hears_no_own u us PresumeAbort k next =
      let s = silent_at k.stands in
      let is_open = at_collecting turn k.stands in
      abort_plain (row_effect d (counting u VoteNo
      (collecting_abort_by seat ByVote (voted (coordinator_view place n d) u VoteNo) us PresumeAbort)))
      next [] refl (first_closes t.child p tree n h d alike u k) (record nothing { no = true })
      (no_said us) (ChildMoves.votes_no (r0 turn))
      (Readings.reading-no root outcome above half q v is_open s.issued s.none_kept s.none_ever s.no_read b)
      (Moves.votes_no pr (r0 turn) inv (may_vote turn (asked_for k.stands) is_open))
  hears_no_own u us PresumeCommit k next =
      let s = silent_at k.stands in
      let is_open = at_collecting turn k.stands in
      let may = may_vote turn (asked_for k.stands) is_open in
      abort_forced (row_effect d (counting u VoteNo
      (collecting_abort_by seat ByVote (voted (coordinator_view place n d) u VoteNo) us PresumeCommit)))
      next us refl (first_closes t.child p tree n h d alike u k) (record nothing { no = true }) (no_said us)
      (ChildMoves.votes_no (ChildMoves.hardens_child (r0 turn)))
      (Readings.reading-no_forced root outcome above half q v is_open s.issued s.none_kept s.none_ever
      s.no_read b)
      (onward turn (ChildMoves.votes_no (ChildMoves.hardens_child (r0 turn)))
      (Moves.votes_no pr (ChildMoves.hardens_child (r0 turn)) (hard turn).invariant
      (record { asked = may.asked; is_open = may.is_open })))

  -- ABORT comes.

  abort_heard : (j : ℕ) → h.input ≡ MessageInput j (Abort d) → live (Remembered turn).phase ≡ false
  abort_heard j i =
      ap (λ (x : Input). live (cascaded_remembers t.child (boot_of (kept n)) d
      (memory_of place n d) x).phase) i
      ∙ Opens.abort_closes t.child (boot_of (kept n)) d (memory_of place n d) j

  pub silent_aborted : (j : ℕ) → h.input ≡ MessageInput j (Abort d) → q.is_open ≡ true → IsSilent turn
  silent_aborted j i e = silent_if turn (aborted_issued turn (abort_sent turn j i)) e

  aborts_first : (j : ℕ) → h.input ≡ MessageInput j (Abort d) → (us : List Ticket) (x : Presumption)
      → d.txn.presumption ≡ x → (coordinator_view place n d).standing ≡ Collecting
      → Then turn (row_effect d (collecting_abort_by seat (ByAbort First) (coordinator_view place n d) us x))
      → Fine turn (row_effect d (collecting_abort_by seat (ByAbort First) (coordinator_view place n d) us x))
  aborts_first j i us PresumeAbort f e next =
      let is_open = at_collecting turn e in
      let s = silent_aborted j i is_open in
      abort_plain (row_effect d (collecting_abort_by seat (ByAbort First)
      (coordinator_view place n d) us PresumeAbort))
      next [] refl (abort_heard j i) nothing
      (ap (λ (y : Presumption). said_by c t (acknowledges_abort seat y ++ each seat Abort us)) f
      ∙ Messages.each_silent c t seat AbortedOutcome us) (ChildMoves.drops (r0 turn))
      (Readings.reading-aborted root outcome above half q v is_open s.issued s.none_kept s.none_ever
      s.no_read b)
      (Moves.drops pr (r0 turn) inv (record { is_open = rw (s.issued, is_open) refl }))
  aborts_first j i us PresumeCommit f e next =
      let is_open = at_collecting turn e in
      let s = silent_aborted j i is_open in
      abort_forced (row_effect d (collecting_abort_by seat (ByAbort First)
      (coordinator_view place n d) us PresumeCommit))
      next us refl (abort_heard j i) (record nothing { ack = true })
      (ap (λ (y : Presumption). said_by c t (acknowledges_abort seat y ++ each seat Abort us)) f
      ∙ ack_said us)
      (ChildMoves.drops_and_acknowledges (ChildMoves.hardens_child (r0 turn)))
      (Readings.reading-aborted_acknowledged root outcome above half q v is_open s.issued s.none_kept
      s.none_ever s.no_read b)
      (onward turn (ChildMoves.drops_and_acknowledges (ChildMoves.hardens_child (r0 turn)))
      (Moves.drops_and_acknowledges pr (sym of ∙ f) (ChildMoves.hardens_child (r0 turn)) (hard turn).invariant
      (record { is_open = rw (s.issued, is_open) refl; aborted = abort_sent turn j i })))

  -- by the second version nothing is said where somebody is named
  aborts_second : (j : ℕ) → h.input ≡ MessageInput j (Abort d) → (us : List Ticket) (x : Presumption)
      → d.txn.presumption ≡ x → (coordinator_view place n d).standing ≡ Collecting → (b : Bool)
      → none_of us ≡ b
      → Then turn (row_effect d (collecting_abort_by seat (ByAbort Second) (coordinator_view place n d) us x))
      → Fine turn (row_effect d (collecting_abort_by seat (ByAbort Second) (coordinator_view place n d) us x))
  aborts_second j i us PresumeAbort f e w g next =
      let is_open = at_collecting turn e in
      let s = silent_aborted j i is_open in
      abort_plain (row_effect d (collecting_abort_by seat (ByAbort Second)
      (coordinator_view place n d) us PresumeAbort))
      next [] refl (abort_heard j i) nothing
      (ap (λ (y : Presumption). said_by c t
      ((if none_of us then acknowledges_abort seat y else []) ++ each seat Abort us)) f
      ∙ (ap (λ (z : Bool). said_by c t ((if z then [] else []) ++ each seat Abort us)) g
      ∙ by_test w)) (ChildMoves.drops (r0 turn))
      (Readings.reading-aborted root outcome above half q v is_open s.issued s.none_kept s.none_ever
      s.no_read b)
      (Moves.drops pr (r0 turn) inv (record { is_open = rw (s.issued, is_open) refl }))
    where
      by_test : (z : Bool) → said_by c t ((if z then [] else []) ++ each seat Abort us) ≡ nothing
      by_test true = Messages.each_silent c t seat AbortedOutcome us
      by_test false = Messages.each_silent c t seat AbortedOutcome us
  aborts_second j i us PresumeCommit f e true g next =
      let is_open = at_collecting turn e in
      let s = silent_aborted j i is_open in
      abort_forced (row_effect d (collecting_abort_by seat (ByAbort Second)
      (coordinator_view place n d) us PresumeCommit))
      next us refl (abort_heard j i) (record nothing { ack = true })
      (ap (λ (y : Presumption). said_by c t
      ((if none_of us then acknowledges_abort seat y else []) ++ each seat Abort us)) f
      ∙ (ap (λ (z : Bool). said_by c t
      ((if z then acknowledges_abort seat PresumeCommit else []) ++ each seat Abort us)) g
      ∙ ack_said us))
      (ChildMoves.drops_and_acknowledges (ChildMoves.hardens_child (r0 turn)))
      (Readings.reading-aborted_acknowledged root outcome above half q v is_open s.issued s.none_kept
      s.none_ever s.no_read b)
      (onward turn (ChildMoves.drops_and_acknowledges (ChildMoves.hardens_child (r0 turn)))
      (Moves.drops_and_acknowledges pr (sym of ∙ f) (ChildMoves.hardens_child (r0 turn)) (hard turn).invariant
      (record { is_open = rw (s.issued, is_open) refl; aborted = abort_sent turn j i })))
  aborts_second j i us PresumeCommit f e false g next =
      let is_open = at_collecting turn e in
      let s = silent_aborted j i is_open in
      abort_forced (row_effect d (collecting_abort_by seat (ByAbort Second)
      (coordinator_view place n d) us PresumeCommit))
      next us refl (abort_heard j i) nothing
      (ap (λ (z : Bool). said_by c t
      ((if z then acknowledges_abort seat d.txn.presumption else []) ++ each seat Abort us)) g
      ∙ Messages.each_silent c t seat AbortedOutcome us)
      (ChildMoves.drops (ChildMoves.hardens_child (r0 turn)))
      (Readings.reading-aborted_waits root outcome above half q v is_open s.issued s.none_kept
      s.none_ever s.no_read b)
      (onward turn (ChildMoves.drops (ChildMoves.hardens_child (r0 turn)))
      (Moves.drops pr (ChildMoves.hardens_child (r0 turn)) (hard turn).invariant
      (record { is_open = rw (s.issued, is_open) refl })))

  pub aborts_own : (ver : Version) (j : ℕ) → h.input ≡ MessageInput j (Abort d) → (us : List Ticket)
      (x : Presumption) → d.txn.presumption ≡ x → (coordinator_view place n d).standing ≡ Collecting
      → Then turn (row_effect d (collecting_abort_by seat (ByAbort ver) (coordinator_view place n d) us x))
      → Fine turn (row_effect d (collecting_abort_by seat (ByAbort ver) (coordinator_view place n d) us x))
  aborts_own First j i us x f e next = aborts_first j i us x f e next
  aborts_own Second j i us x f e next = aborts_second j i us x f e (none_of us) refl next

  abbrev GivesUp : Presumption → Row
  GivesUp x = record (active_abort seat (coordinator_view place n d)) {
    messages = acknowledges_abort seat x ++ each seat Abort (coordinator_view place n d).accepted;
  }

  pub gives_up_own : (j : ℕ) → h.input ≡ MessageInput j (Abort d) → (x : Presumption) → d.txn.presumption ≡ x
      → (coordinator_view place n d).standing ≡ Active
      → Then turn (row_effect d (GivesUp x)) → Fine turn (row_effect d (GivesUp x))
  gives_up_own j i PresumeAbort f e next =
      let is_open = open_at turn Active e (inl refl) in
      let s = silent_aborted j i is_open in
      silent_fine turn (row_effect d (GivesUp PresumeAbort)) next refl nothing
      (Messages.each_silent c t seat AbortedOutcome (coordinator_view place n d).accepted)
      (λ o g. subst (λ (z : Reading). Fits pr (r0 turn) z)
      (sym (ap (λ x. R turn (stands_so x q) v) (g ∙ abort_heard j i)
      ∙ Readings.reading-dropped root outcome above half q v is_open s.issued s.none_kept s.none_ever
      s.no_read))
      (Moves.drops pr (r0 turn) inv (record { is_open = rw (s.issued, is_open) refl })))
  gives_up_own j i PresumeCommit f e next =
      let is_open = open_at turn Active e (inl refl) in
      let s = silent_aborted j i is_open in
      silent_fine turn (row_effect d (GivesUp PresumeCommit)) next refl (record nothing { ack = true })
      (ack_said (coordinator_view place n d).accepted)
      (λ o g. subst (λ (z : Reading). Fits pr (r0 turn) z)
      (sym (ap (λ x. R turn (stands_so x q) (record v { ack = true })) (g ∙ abort_heard j i)
      ∙ Readings.reading-dropped_acknowledged root outcome above half q v is_open s.issued s.none_kept
      s.none_ever s.no_read))
      (Moves.drops_and_acknowledges pr (sym of ∙ f) (r0 turn) inv
      (record { is_open = rw (s.issued, is_open) refl; aborted = abort_sent turn j i })))
