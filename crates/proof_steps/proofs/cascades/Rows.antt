-- Every row of a cascaded coordinator, of the pair's case and of any other, keeps the pair's invariant.
use Rattle.std.proofs.Common.{◌≡◌, ◌∙◌, inl, inr, ℕ, Bool, true, false, Some, List, [], ◌∷◌, ◌++◌, refl, sym, subst, if◌then◌else◌, None}
use Rattle.protocol.specs.declared.names.Case.{Case}
use Rattle.protocol.specs.declared.names.Outcome.{Outcome}
use Rattle.protocol_words.specs.Variants.{AbortRecord, AbortedOutcome, CollectingRecord, CommitRecord, CommittedOutcome, EndRecord, MessageInput, PrepareRecord}
use Rattle.protocol.specs.declared.names.Presumption.{Presumption}
use Rattle.protocol.specs.declared.names.Presumption.TheVariants.{PresumeAbort, PresumeCommit}
use Rattle.protocol.specs.declared.names.ProcessId.{ProcessId}
use Rattle.protocol.specs.declared.names.Ticket.{Ticket}
use Rattle.protocol.specs.declared.messages.Envelope.{Envelope}
use Rattle.protocol.specs.declared.messages.Message.TheVariants.{Join, Work, Yes, No, Read, Abort, Ack, Inquire}
use Rattle.protocol.specs.declared.messages.Op.{Op}
use Rattle.protocol.specs.Names.{presumed, same_case}
use Rattle.protocol.specs.NameLaws.{same_case_tells}
use Rattle.protocol.specs.CoordinatorRows.{abort_answered, acknowledges_at_once, acknowledges_at_last, Row, Reason, ByAct, ByAbort, ByVote, Seat, abort_heard_above, acknowledges_abort, each, post, tells_outcome}
use Rattle.protocol.specs.Records.{none_of, in_order}
use Rattle.protocol.specs.Nodes.{Version, First, Second, Effect, Place}
use Rattle.protocol.specs.Reactions.{row_effect, seat_of}
use Rattle.protocol.specs.Standings.{CoordinatorView, coordinator_view, found_below}
use Rattle.proof_pairs.specs.turns.CoordinatorTurns.{CaseTurn, CoordinatorTurn, abort_act, abort_comes, accepts, acknowledges, clears, answers, asks, asks_for_votes, aborts, begins, commit_act, commits, counts_vote, does_nothing, ends, finds_nobody, gives_again, gives_fresh, gives_up, hears_no, invites, of_case, passes_abort, passes_commit, prepare_comes, presumes, promises, reads_only, refuses, repeats_yes, rests, sends_work, waits_for_acks}
use Rattle.proof_steps.proofs.cascades.Halves.{IsAside, plain_end}
use Rattle.proof_steps.proofs.cascades.Messages
use Rattle.proof_steps.proofs.cascades.Messages.{IsSilent, nothing, said_by}
use Rattle.proof_steps.proofs.cascades.Opens.{IsRow}
use Rattle.proof_steps.proofs.cascades.Turns.{Fine, Then, Turn, own_case, forced_aside, place_in, plain_aside, quiet_turn}
use Rattle.proof_steps.proofs.cascades.TurnsDecided.{acknowledges_own, asks_own, ends_own, passes_abort_own, passes_commit_own, refuses_own, repeats_yes_own}
use Rattle.proof_steps.proofs.cascades.TurnsVoted.{aborts_own, gives_up_own, hears_no_own, promises_own, reads_only_own}
use Rattle.proof_steps.proofs.cascades.TurnsVotes.{finds_nobody_own, no_root}
use Rattle.protocol.specs.declared.messages.Finding.{Finding}

module _ (turn : Turn) where
  open turn use {c, t, p, tree, n, h, net, row}

  abbrev d : Case
  d = own_case turn

  abbrev place : Place
  place = place_in turn

  abbrev seat : Case → Seat
  seat x = seat_of place (Some p) x

  abbrev view : Case → CoordinatorView
  view x = coordinator_view place n x

  -- One message down, or JOIN.

  message_down : (o : Outcome) (x : ProcessId) (e : Case)
      → IsSilent c t (post t.child x (tells_outcome o e) ∷ [])
  message_down CommittedOutcome x e = Messages.said_first c t _ [] (Messages.none_silent c t)
  message_down AbortedOutcome x e = Messages.said_first c t _ [] (Messages.none_silent c t)

  message_work : (x : ProcessId) (e : Case) (k : ℕ) (op : Op)
      → IsSilent c t (post t.child x (Work e k op) ∷ [])
  message_work x e k op = Messages.said_first c t _ [] (Messages.none_silent c t)

  -- Rows of the pair's case.

  own_row : (r : Row) → CaseTurn place (Some p) n h d r → Then turn (row_effect d r)
      → Fine turn (row_effect d r)
  own_row _ (rests i) k = quiet_turn turn _ k refl (Messages.none_silent c t)
  own_row _ (invites x i e f g) k = quiet_turn turn _ k refl (Messages.join_silent c t t.child x d)
  own_row _ (accepts u i e f) k = quiet_turn turn _ k refl (Messages.none_silent c t)
  own_row _ (sends_work x u op i e f g) k = quiet_turn turn _ k refl (message_work u.child _ _ op)
  own_row _ (finds_nobody (commit_act x e i) f g) k = no_root c t x e
  own_row _ (finds_nobody (prepare_comes x j e i) f g) k = finds_nobody_own turn i.0 j i.1 f g k
  own_row _ (asks_for_votes PresumeAbort i e f g) k =
      quiet_turn turn _ k refl (Messages.prepares_silent c t (seat d) (view d) (view d).accepted)
  own_row _ (asks_for_votes PresumeCommit i e f g) k =
      forced_aside turn _ k (CollectingRecord d (view d).accepted) refl (λ x. refl)
      (record { no_prepare = refl; no_commit = refl; no_abort = refl })
      (Messages.prepares_silent c t (seat d) (view d) (view d).accepted)
  own_row _ (gives_up _ x (abort_act y e i) f g) k = no_root c t y e
  own_row _ (gives_up _ x (abort_comes y e i) f g) k = gives_up_own turn i.0 i.1 x g f k
  own_row _ (counts_vote u w i e f) k = quiet_turn turn _ k refl (Messages.none_silent c t)
  own_row _ (reads_only u w ys x i e f) k = reads_only_own turn u w ys x i k
  own_row _ (commits u w ys x i e f g) k = absurd (cc)
  own_row _ (promises u w ys x i e f) k =
      promises_own turn u w ys i k
  own_row _ (hears_no u us x i e f) k = hears_no_own turn u us x i k
  own_row _ (aborts _ us x (abort_act y e i) f g l) k = no_root c t y e
  own_row _ (aborts _ us x (abort_comes y e i) f g l) k = aborts_own turn h.version i.0 i.1 us x l f k
  own_row _ (passes_commit x i e f) k = passes_commit_own turn h.version i.hears.0 i.hears.1 x f e k
  own_row _ (passes_abort x i e f) k = passes_abort_own turn h.version i.hears.0 i.hears.1 x f e k
  own_row _ (repeats_yes j i e) k = repeats_yes_own turn i.hears.0 j i.hears.1 e k
  own_row _ (asks i e) k = asks_own turn e k
  own_row _ (refuses j i e) k = refuses_own turn i.hears.0 j i.hears.1 e k
  own_row _ (acknowledges o fs i e) k = acknowledges_own turn i.hears.0 o fs i.hears.1 e k
  own_row _ (waits_for_acks u o fs i e f g) k = quiet_turn turn _ k refl (Messages.none_silent c t)
  own_row _ (ends u o fs i e f g) k = ends_own turn h.version o (found_below place n d o fs) e k
  own_row _ (clears i e f g) k = absurd (cc)
  own_row _ (answers u o i e) k = quiet_turn turn _ k refl (message_down o u.child _)

  -- Rows of another case.

  module _ (x : Case) (other : same_case x (own_case turn) ≡ false) where
    abbrev Silent : List Envelope → Type 0
    Silent ls = IsSilent c t ls

    up_yes : Silent (post t.child p (Yes x) ∷ [])
    up_yes = Messages.said_first c t _ [] (Messages.none_silent c t) ∙ rw other refl

    up_no : (ls : List Envelope) → Silent ls → Silent (post t.child p (No x) ∷ ls)
    up_no ls s = Messages.said_first c t _ ls s ∙ rw other refl

    up_read : Silent (post t.child p (Read x) ∷ [])
    up_read = Messages.said_first c t _ [] (Messages.none_silent c t) ∙ rw other refl

    up_ack : (o : Outcome) (fs : List Finding) (ls : List Envelope) → Silent ls
        → Silent (post t.child p (Ack x o fs) ∷ ls)
    up_ack o fs ls s = Messages.said_first c t _ ls s ∙ rw other refl

    up_inquire : Silent (post t.child p (Inquire x) ∷ [])
    up_inquire = Messages.said_first c t _ [] (Messages.none_silent c t) ∙ rw other refl

    aborts_down : (us : List Ticket) → Silent (each (seat x) Abort us)
    aborts_down us = Messages.each_silent c t (seat x) AbortedOutcome us

    acknowledged : (q : Presumption) (us : List Ticket)
        → Silent (acknowledges_abort (seat x) q ++ each (seat x) Abort us)
    acknowledged PresumeAbort us = aborts_down us
    acknowledged PresumeCommit us = up_ack AbortedOutcome [] (each (seat x) Abort us) (aborts_down us)

    heard_above : (why : Reason) (us : List Ticket)
        → Silent (abort_heard_above (seat x) why us ++ each (seat x) Abort us)
    heard_above ByVote us = up_no (each (seat x) Abort us) (aborts_down us)
    heard_above ByAct us = aborts_down us
    heard_above (ByAbort First) us = acknowledged x.txn.presumption us
    heard_above (ByAbort Second) us = by_test (none_of us)
      where
        by_test : (b : Bool)
            → Silent ((if b then acknowledges_abort (seat x) x.txn.presumption else [])
            ++ each (seat x) Abort us)
        by_test true = acknowledged x.txn.presumption us
        by_test false = aborts_down us

    at_once : (ver : Version) (o : Outcome) (ls : List Envelope) → Silent ls
        → Silent (acknowledges_at_once ver (seat x) o ++ ls)
    at_once First o ls s = up_ack o [] ls s
    at_once Second o ls s = s

    at_last : (ver : Version) (o : Outcome) (fs : List Finding)
        → Silent (acknowledges_at_last ver (seat x) o fs)
    at_last First o fs = Messages.none_silent c t
    at_last Second o fs = up_ack o (in_order fs) [] (Messages.none_silent c t)

    aside_promise : (ts : List Ticket) → IsAside (own_case turn) (PrepareRecord x ts)
    aside_promise ts = record { no_prepare = other; no_commit = refl; no_abort = refl }

    aside_commit : (ts : List Ticket) → IsAside (own_case turn) (CommitRecord x ts)
    aside_commit ts = record { no_prepare = refl; no_commit = other; no_abort = refl }

    aside_abort : (ts : List Ticket) → IsAside (own_case turn) (AbortRecord x ts)
    aside_abort ts = record { no_prepare = refl; no_commit = refl; no_abort = other }

    other_row : (r : Row) → CaseTurn place (Some p) n h x r → Then turn (row_effect x r)
        → Fine turn (row_effect x r)
    other_row _ (rests i) k = quiet_turn turn _ k refl (Messages.none_silent c t)
    other_row _ (invites y i e f g) k = quiet_turn turn _ k refl (Messages.join_silent c t t.child y x)
    other_row _ (accepts u i e f) k = quiet_turn turn _ k refl (Messages.none_silent c t)
    other_row _ (sends_work y u op i e f g) k = quiet_turn turn _ k refl (message_work u.child _ _ op)
    other_row _ (finds_nobody i f g) k = quiet_turn turn _ k refl up_read
    other_row _ (asks_for_votes PresumeAbort i e f g) k =
        quiet_turn turn _ k refl (Messages.prepares_silent c t (seat x) (view x) (view x).accepted)
    other_row _ (asks_for_votes PresumeCommit i e f g) k =
        forced_aside turn _ k (CollectingRecord x (view x).accepted) refl (λ y. refl)
        (record { no_prepare = refl; no_commit = refl; no_abort = refl })
        (Messages.prepares_silent c t (seat x) (view x) (view x).accepted)
    other_row _ (gives_up why q i f g) k = quiet_turn turn _ k refl (acknowledged q (view x).accepted)
    other_row _ (counts_vote u w i e f) k = quiet_turn turn _ k refl (Messages.none_silent c t)
    other_row _ (reads_only u w ys PresumeAbort i e f) k = quiet_turn turn _ k refl up_read
    other_row _ (reads_only u w ys PresumeCommit i e f) k =
        plain_aside turn _ k (EndRecord x None) refl (λ y. refl)
        (record { no_prepare = refl; no_commit = refl; no_abort = refl }) up_read
    other_row _ (commits u w ys q i e f g) k = absurd (cc)
    other_row _ (promises u w ys q i e f) k =
        forced_aside turn _ k (PrepareRecord x ys) refl (λ y. refl) (aside_promise ys) up_yes
    other_row _ (hears_no u us PresumeAbort i e f) k =
        plain_aside turn _ k (AbortRecord x []) refl (λ y. refl) (aside_abort []) (heard_above ByVote us)
    other_row _ (hears_no u us PresumeCommit i e f) k =
        forced_aside turn _ k (AbortRecord x us) refl (λ y. refl) (aside_abort us) (heard_above ByVote us)
    other_row _ (aborts why us PresumeAbort i e f g) k =
        plain_aside turn _ k (AbortRecord x []) refl (λ y. refl) (aside_abort []) (heard_above why us)
    other_row _ (aborts why us PresumeCommit i e f g) k =
        forced_aside turn _ k (AbortRecord x us) refl (λ y. refl) (aside_abort us) (heard_above why us)
    other_row _ (passes_commit PresumeAbort i e f) k =
        forced_aside turn _ k (CommitRecord x (view x).promised) refl (λ y. refl)
        (aside_commit (view x).promised)
        (at_once h.version CommittedOutcome _ (Messages.each_silent c t (seat x) CommittedOutcome
        (view x).promised))
    other_row _ (passes_commit PresumeCommit i e f) k =
        plain_aside turn _ k (CommitRecord x []) refl (λ y. refl) (aside_commit [])
        (Messages.each_silent c t (seat x) CommittedOutcome (view x).promised)
    other_row _ (passes_abort PresumeAbort i e f) k =
        plain_aside turn _ k (AbortRecord x []) refl (λ y. refl) (aside_abort [])
        (aborts_down (view x).promised)
    other_row _ (passes_abort PresumeCommit i e f) k =
        forced_aside turn _ k (AbortRecord x (view x).promised) refl (λ y. refl)
        (aside_abort (view x).promised)
        (at_once h.version AbortedOutcome _ (aborts_down (view x).promised))
    other_row _ (repeats_yes j i e) k = quiet_turn turn _ k refl up_yes
    other_row _ (asks i e) k = quiet_turn turn _ k refl up_inquire
    other_row _ (refuses j i e) k = quiet_turn turn _ k refl (up_no [] (Messages.none_silent c t))
    other_row _ (acknowledges o fs i e) k = quiet_turn turn _ k refl
        (up_ack o fs [] (Messages.none_silent c t))
    other_row _ (waits_for_acks u o fs i e f g) k = quiet_turn turn _ k refl (Messages.none_silent c t)
    other_row _ (ends u o fs i e f g) k =
        plain_aside turn _ k (EndRecord x None) (plain_end t.child p x h.version (found_below place n x o fs))
        (λ y. refl) (record { no_prepare = refl; no_commit = refl; no_abort = refl })
        (at_last h.version o (found_below place n x o fs))
    other_row _ (clears i e f g) k = absurd (cc)
    other_row _ (answers u o i e) k = quiet_turn turn _ k refl (message_down o u.child _)

  case_row : (x : Case) (r : Row) → CaseTurn place (Some p) n h x r → Then turn (row_effect x r)
      → Fine turn (row_effect x r)
  case_row x r i k = elim (same_case_tells x d) [
    | inl s ↦ subst (λ (z : Case). CaseTurn place (Some p) n h z r → Then turn (row_effect z r)
        → Fine turn (row_effect z r)) (sym s.1) (own_row r) i k
    | inr f ↦ other_row x f.0 r i k
  ]

  -- Each input that gives no ticket.

  no_join : {A : Type 0} (j : ℕ) (e : Case) → IsRow h.input
      → h.input ≡ MessageInput j (Join e) → A
  no_join j e r i = absurd (subst IsRow i r)

  pub turn_fits : (e : Effect) → CoordinatorTurn place (Some p) n h e → Then turn e → Fine turn e
  turn_fits _ (does_nothing i) k = quiet_turn turn _ k refl (Messages.none_silent c t)
  turn_fits _ (of_case x r i) k = case_row x r i k
  turn_fits _ (begins q e i) k = absurd (cc)
  turn_fits _ (gives_again q x u e i f) k = no_join i.0 x row i.1
  turn_fits _ (gives_fresh q x e i f) k = no_join i.0 x row i.1
  turn_fits _ (presumes x u i e) k =
      quiet_turn turn _ k refl (message_down (presumed x.presumption) u.child _)
