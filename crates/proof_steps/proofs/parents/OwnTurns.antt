-- Each turn of the pair's own case keeps the pair.
use Rattle.std.proofs.Common.{◌≡◌, ◌∙◌, Bool, true, false, List, [], ◌∷◌, ◌++◌, refl, sym, subst, if◌then◌else◌}
use Rattle.protocol.specs.Nodes.{Version}
use Rattle.protocol.specs.declared.names.Ticket.{Ticket}
use Rattle.protocol.specs.declared.names.Outcome.{Outcome}
use Rattle.protocol_words.specs.Variants.{AbortedOutcome, ClearedRecord, CommittedOutcome}
use Rattle.protocol.specs.declared.messages.Envelope.{Envelope}
use Rattle.protocol.specs.declared.messages.Message.TheVariants.{Inquire}
use Rattle.protocol.specs.declared.standings.Standing.{Standing}
use Rattle.protocol.specs.declared.standings.Standing.TheVariants.{Unknown, Prepared, Committing, Aborting}
use Rattle.protocol.specs.declared.names.Presumption.{Presumption}
use Rattle.protocol.specs.Names.{same_ticket, child_case}
use Rattle.protocol.specs.NameLaws.{same_txn-refl}
use Rattle.protocol.specs.Memory.{Memory, Open, Asked}
use Rattle.protocol.specs.CoordinatorRows.{Row, sends, to_child, tells_outcome}
use Rattle.protocol.specs.Reactions.{row_effect, seat_of}
use Rattle.protocol.specs.Standings.{CoordinatorView}
use Rattle.proof_pairs.specs.readings.ReadingOf.{ParentHalf, Wire, wire}
use Rattle.proof_pairs.specs.turns.CoordinatorTurns.{CaseTurn, HearsChild, HearsParent, PromisesNoMore, Acknowledges, AnswersInquiry}
use Rattle.proof_pairs.specs.turns.CoordinatorTurns
use Rattle.proof_steps.proofs.children.Moves.{unmoved}
use Rattle.proof_steps.proofs.parents.Memories
use Rattle.proof_steps.proofs.parents.Memories.{itself, stays}
use Rattle.proof_steps.proofs.parents.Own
use Rattle.proof_steps.proofs.parents.Own.{Goes}
use Rattle.proof_steps.proofs.parents.OwnAborts
use Rattle.proof_steps.proofs.parents.OwnActive
use Rattle.proof_steps.proofs.parents.OwnDecided
use Rattle.proof_steps.proofs.parents.OwnDecided.{told_wire}
use Rattle.proof_steps.proofs.parents.OwnPromised
use Rattle.proof_steps.proofs.parents.OwnPromised.{not_open, not_asked}
use Rattle.proof_steps.proofs.parents.OwnQuiet.{After, not_childs, aside_row, quiet_row, rest_nothing, rest_prepare, rest_outcome}
use Rattle.proof_steps.proofs.parents.OwnVotes
use Rattle.proof_steps.proofs.parents.Quiet.{begun_silent, cleared_unrelated, shown}
use Rattle.proof_steps.proofs.parents.Rested
use Rattle.proof_steps.proofs.parents.Turns.{Turn, Fine, Fits_in, seen, remembered, half, net_part, told_outcome, reading, fine_silent}
use Rattle.proof_steps.proofs.parents.Wires
use Rattle.proof_steps.proofs.parents.Writes.{stands_so}
use Rattle.protocol.specs.declared.messages.Finding.{Finding}
use Rattle.protocol.specs.declared.names.Case.{Case}

module _ (turn : Turn) where
  open turn use {place, parent, n, h, net, c, t, up, inv}

  abbrev p0 : ParentHalf
  p0 = half turn

  abbrev v0 : Wire
  v0 = net_part turn

  abbrev v : CoordinatorView
  v = Own.v turn

  abbrev m : Memory
  m = remembered turn

  -- only messages are sent
  pub only_sends : (ls : List Envelope) (x : CoordinatorView) → After turn (sends ls x)
      → Goes turn m.phase → (w : Wire)
      → wire c t (net ++ ls) ≡ w
      → Fits_in turn (seen turn (told_outcome turn) p0 w) → Fine turn (row_effect c (sends ls x))
  only_sends ls x later says w e f =
      fine_silent turn (row_effect c (sends ls x)) later.alike m.phase p0.accepted p0.acked says w e refl
      (subst (λ (y : Bool). Fits_in turn
      (seen turn (told_outcome turn) (stands_so false m.phase p0.accepted p0.acked y p0) w))
      (sym (begun_silent turn (row_effect c (sends ls x)) refl
      (record {
        accepts = refl;
        yes_votes = refl;
        no_votes = refl;
        read_votes = refl;
        committed = refl;
        aborted = refl;
        told = refl;
      })))
      (subst (λ (y : ParentHalf). Fits_in turn (seen turn (told_outcome turn) y w))
      (sym (shown turn p0.acked)) f))

  answer_wire : (u : Ticket) (o : Outcome) (b : Bool) → same_ticket u t ≡ b
      → wire c t (net ++ to_child (seat_of place parent c) (tells_outcome o) u ∷ [])
      ≡ (if b then told_wire turn o else v0)
  answer_wire u CommittedOutcome true e =
      Wires.wire-commit c t net place.me u.child c.txn u true
      (Wires.same_children c.txn c.txn u t ∙ rw (same_txn-refl c.txn, e) refl)
  answer_wire u CommittedOutcome false e =
      Wires.wire-commit c t net place.me u.child c.txn u false
      (Wires.same_children c.txn c.txn u t ∙ rw (same_txn-refl c.txn, e) refl)
  answer_wire u AbortedOutcome true e =
      Wires.wire-abort c t net place.me u.child c.txn u true
      (Wires.same_children c.txn c.txn u t ∙ rw (same_txn-refl c.txn, e) refl)
  answer_wire u AbortedOutcome false e =
      Wires.wire-abort c t net place.me u.child c.txn u false
      (Wires.same_children c.txn c.txn u t ∙ rw (same_txn-refl c.txn, e) refl)

  answers : (u : Ticket) (o : Outcome) → HearsChild place n h c u Inquire
      → AnswersInquiry c.txn.presumption v.standing o
      → (b : Bool) → same_ticket u t ≡ b
      → After turn (sends (to_child (seat_of place parent c) (tells_outcome o) u ∷ []) v)
      → Fine turn (row_effect c (sends (to_child (seat_of place parent c) (tells_outcome o) u ∷ []) v))
  answers u o i e true f later =
      only_sends (to_child (seat_of place parent c) (tells_outcome o) u ∷ []) v later
      (stays turn m (Memories.inquires turn (child_case i.txn u) i.hears.0 i.hears.1) (itself turn))
      (told_wire turn o) (answer_wire u o true f)
      (OwnDecided.answer_fits turn c.txn.presumption refl v.standing refl o e (OwnDecided.asked turn u i f))
  answers u o i e false f later =
      only_sends (to_child (seat_of place parent c) (tells_outcome o) u ∷ []) v later
      (stays turn m (Memories.inquires turn (child_case i.txn u) i.hears.0 i.hears.1) (itself turn)) v0
      (answer_wire u o false f)
      (unmoved c.txn.presumption (reading turn) inv)

  pub refuses_late : (s : Standing) → PromisesNoMore s → v.standing ≡ s → m.phase ≡ Open → ⊥
  refuses_late _ CoordinatorTurns.unknown_refuses e o = not_open turn Unknown e (λ z. cc) o
  refuses_late _ CoordinatorTurns.aborting_refuses e o = not_open turn Aborting e (λ z. cc) o

  pub acknowledges_late : (ver : Version) (d : Case) (o : Outcome) (p : Presumption) (s : Standing)
      (fs : List Finding) → Acknowledges ver d o p s fs → v.standing ≡ s
      → (m.phase ≡ Open → ⊥) × (m.phase ≡ Asked → ⊥)
  acknowledges_late _ _ _ _ _ _ (CoordinatorTurns.commit_presumed_abort w _) e =
      (not_open turn Unknown e (λ z. cc), not_asked turn Unknown e (λ z. cc))
  acknowledges_late _ _ _ _ _ _ (CoordinatorTurns.commit_again _ p) e =
      (not_open turn Committing e (λ z. cc), not_asked turn Committing e (λ z. cc))
  acknowledges_late _ _ _ _ _ _ (CoordinatorTurns.abort_presumed_commit w _) e =
      (not_open turn Unknown e (λ z. cc), not_asked turn Unknown e (λ z. cc))
  acknowledges_late _ _ _ _ _ _ (CoordinatorTurns.abort_again _ p) e =
      (not_open turn Aborting e (λ z. cc), not_asked turn Aborting e (λ z. cc))

  pub own_turn : (row : Row) → CaseTurn place parent n h c row → After turn row → Fine turn (row_effect c row)
  own_turn _ (CoordinatorTurns.rests r) later =
      quiet_row turn _ later refl refl refl refl (rest_nothing turn r) (simp (Wires.sent-none))
  own_turn _ (CoordinatorTurns.invites q i e f g) later =
      quiet_row turn _ later refl refl refl refl (Rested.rest_same turn (Memories.join_act turn c q i))
      (Wires.silent-join c t net place.me q c)
  own_turn _ (CoordinatorTurns.accepts u i e f) later = OwnActive.accepts turn u i e f _ refl later
  own_turn _ (CoordinatorTurns.sends_work q u op i e f g) later =
      quiet_row turn _ later refl refl refl refl (Rested.rest_work turn c q op i)
      (Wires.silent-work c t net place.me u.child (child_case c.txn u) _ op)
  own_turn _ (CoordinatorTurns.finds_nobody i e f) later = OwnActive.finds_nobody turn i e f later
  own_turn _ (CoordinatorTurns.asks_for_votes p i e f q) later = OwnActive.asks_for_votes turn p i e f q later
  own_turn _ (CoordinatorTurns.gives_up why p i e q) later = OwnActive.gives_up turn why p i e _ refl later
  own_turn _ (CoordinatorTurns.counts_vote u w i k e) later = OwnVotes.counts_vote turn u w i k e later
  own_turn _ (CoordinatorTurns.reads_only u w ys p i e q) later =
      OwnVotes.reads_only turn u w ys i p e q later
  own_turn _ (CoordinatorTurns.commits u w ys p i e s q) later = OwnVotes.commits turn u w ys i p s q later
  own_turn _ (CoordinatorTurns.promises u w ys p i e s) later = OwnVotes.promises turn u w ys i p s later
  own_turn _ (CoordinatorTurns.hears_no u us p i f q) later = OwnAborts.hears_no turn u us i f p q later
  own_turn _ (CoordinatorTurns.aborts why us p i e f q) later = OwnAborts.aborts turn why us p i e f q later
  own_turn _ (CoordinatorTurns.passes_commit p i e q) later = OwnPromised.passes_commit turn p i e q later
  own_turn _ (CoordinatorTurns.passes_abort p i e q) later = OwnPromised.passes_abort turn p i e q later
  own_turn _ (CoordinatorTurns.repeats_yes k i e) later =
      quiet_row turn _ later refl refl refl refl
      (rest_prepare turn k i (λ o. not_open turn Prepared e (λ z. cc) o))
      (Wires.silent-yes c t net place.me parent c (not_childs turn))
  own_turn _ (CoordinatorTurns.asks i e) later =
      quiet_row turn _ later refl refl refl refl (Rested.rest_same turn (Memories.ask_act turn c i))
      (Wires.silent-inquire c t net place.me parent c (not_childs turn))
  own_turn _ (CoordinatorTurns.refuses k i e) later =
      quiet_row turn _ later refl refl refl refl
      (rest_prepare turn k i (λ o. refuses_late v.standing e refl o))
      (Wires.silent-no c t net place.me parent c (not_childs turn))
  own_turn _ (CoordinatorTurns.acknowledges o fs i e) later =
      let late = acknowledges_late h.version c o c.txn.presumption v.standing fs e refl in
      quiet_row turn _ later refl refl refl refl (rest_outcome turn o i late.0 late.1)
      (Wires.silent-ack c t net place.me parent c (not_childs turn) o fs)
  own_turn _ (CoordinatorTurns.waits_for_acks u o fs i e f g) later =
      quiet_row turn _ later refl refl refl refl (Rested.rest_ack turn o fs i.txn u i.hears.0 i.hears.1)
      (simp (Wires.sent-none))
  own_turn _ (CoordinatorTurns.ends u o fs i e f g) later = OwnDecided.ends turn u o fs i e g later
  own_turn _ (CoordinatorTurns.clears i e f g) later =
      aside_row turn _ later (ClearedRecord c) refl (cleared_unrelated turn c) refl refl refl
      (Rested.rest_same turn (Memories.forget_act turn c i)) (simp (Wires.sent-none))
  own_turn _ (CoordinatorTurns.answers u o i e) later = answers u o i e (same_ticket u t) refl later
