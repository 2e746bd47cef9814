-- Each turn of a cascaded coordinator in which its device fails: nothing or the one record was appended.
use Rattle.std.proofs.Common.{◌≡◌, ◌∙◌, inl, inr, ℕ, zero, suc, Bool, true, false, Some, List, [], ◌∷◌, refl, sym, ap, subst, None}
use Rattle.protocol.specs.declared.names.Case.{Case}
use Rattle.protocol.specs.declared.names.Presumption.{Presumption}
use Rattle.protocol.specs.declared.names.Presumption.TheVariants.{PresumeAbort, PresumeCommit}
use Rattle.protocol.specs.declared.names.Ticket.{Ticket}
use Rattle.protocol.specs.declared.messages.Message.TheVariants.{Abort, Commit}
use Rattle.protocol.specs.declared.records.Record.{Record}
use Rattle.protocol_words.specs.Variants.{AbortRecord, CollectingRecord, CommitRecord, EndRecord, MessageInput, PrepareRecord}
use Rattle.protocol.specs.declared.standings.Standing.TheVariants.{Collecting, Prepared}
use Rattle.protocol.specs.Names.{same_case}
use Rattle.protocol.specs.NameLaws.{same_case_tells}
use Rattle.protocol.specs.Records.{has, is_prepare}
use Rattle.protocol.specs.CoordinatorRows.{Row}
use Rattle.protocol.specs.Memory.{memory_of}
use Rattle.protocol.specs.Nodes.{Effect, Heard, Node, Place, fails_in, kept}
use Rattle.protocol.specs.Reactions.{row_effect}
use Rattle.protocol.specs.Standings.{CoordinatorView, coordinator_view, found_below}
use Rattle.proof_pairs.specs.ChildCrash
use Rattle.proof_pairs.specs.Reading.{Reading}
use Rattle.proof_pairs.specs.readings.ReadingOf.{ParentHalf, Wire, reading_from}
use Rattle.proof_pairs.specs.turns.CoordinatorTurns.{CaseTurn, CoordinatorTurn, accepts, acknowledges, clears, answers, asks, asks_for_votes, aborts, begins, commits, counts_vote, does_nothing, ends, finds_nobody, gives_again, gives_fresh, gives_up, hears_no, invites, of_case, passes_abort, passes_commit, presumes, promises, reads_only, refuses, repeats_yes, rests, sends_work, waits_for_acks}
use Rattle.proof_processes.specs.WorldHolds.{InvariantOf}
use Rattle.proof_processes.proofs.Cases.{viewed}
use Rattle.proof_processes.proofs.CaseOrders.{AllFit}
use Rattle.proof_processes.proofs.Phases.{collecting_undecided}
use Rattle.proof_processes.proofs.Tests.{in_first}
use Rattle.proof_steps.proofs.children.FailMoves
use Rattle.proof_steps.proofs.children.Moves
use Rattle.proof_steps.proofs.children.Moves.{Fits}
use Rattle.proof_steps.proofs.cascades.Fails.{IsOld, OwnFront, as_front, failed_own, fails_none, front_of, own_fails, own_fails_behind, reading-fails_aborting, reading-fails_to_commit, reading-fails_to_promise, reading-fails_to_roll_back}
use Rattle.proof_steps.proofs.cascades.Faults
use Rattle.proof_steps.proofs.cascades.Faults.{Unforced}
use Rattle.proof_steps.proofs.cascades.Halves
use Rattle.proof_steps.proofs.cascades.Halves.{IsAside, OwnHalf, aborts_record, as_child, aside, commits_record, own_half_at, promises_record, wrote, plain_end}
use Rattle.proof_steps.proofs.cascades.Turns.{R, Turn, own_case, opens, place_in, half_in, r0, wire_in}
use Rattle.proof_steps.proofs.cascades.TurnsDecided.{commit_sent, doubt_at, prepared_closed}
use Rattle.proof_steps.proofs.cascades.TurnsVoted.{asked_for, silent_at}
use Rattle.proof_steps.proofs.cascades.TurnsVotes.{abort_sent, at_collecting, may_vote}

-- an input that writes nothing
module _ (d : Case) (n : Node) (h : Heard) (v : Wire) (pr : Presumption) (root outcome above : Bool)
    (half : ParentHalf) (o : Bool)
    (inv : InvariantOf pr (reading_from root false outcome above half (as_child (own_half_at o n d)) v))
    (up : n.failed ≡ false) (e : Effect) where
  abbrev Left : Node → Type 0
  Left k = AllFit [] (kept k)
      → Fits pr (reading_from root false outcome above half (as_child (own_half_at o n d)) v)
      (reading_from root false outcome above half (as_child (own_half_at false k d)) v)

  -- nothing was appended
  pub none_appended : (f : ℕ) → Left (fails_in n h e zero f)
  none_appended f fit =
      Faults.fails_quietly d n v pr root outcome above half o inv (fails_in n h e zero f) fit
      (λ x y. in_first x n.forced _ y) up
      (own_fails o n h e f d (λ x. ((Moves.common_of pr _ inv).child_forced_promise x).1))

  pub writes_none : e.written ≡ [] → (a f : ℕ) → Left (fails_in n h e a f)
  writes_none none a f =
      subst (λ (z : Node). Left z) (sym (fails_none n h e a f none)) (none_appended f)

module _ (turn : Turn) where
  open turn use {c, t, p, tree, n, h, net, up, promise_written, pr, of, root, outcome, above, half, inv}

  abbrev d : Case
  d = own_case turn

  abbrev place : Place
  place = place_in turn

  abbrev q : OwnHalf
  q = half_in turn

  abbrev v : Wire
  v = wire_in turn

  abbrev b : Bool
  b = has (is_prepare d) n.life

  abbrev Ok : Node → Type 0
  Ok k = Fits pr (r0 turn) (R turn (own_half_at false k d) v)

  abbrev pub Fails : Effect → Type 0
  Fails e = (a f : ℕ) → AllFit [] (kept (fails_in n h e a f)) → Ok (fails_in n h e a f)

  old : IsOld (is_prepare (own_case turn)) n
  old x = ((Moves.common_of pr (r0 turn) inv).child_forced_promise x).1

  holds : (e : Effect) (a f : ℕ) (x : Record → Bool) → has x n.forced ≡ true
      → has x (fails_in n h e a f).forced ≡ true
  holds e a f x y = in_first x n.forced _ y

  quiet_zero : (e : Effect) (f : ℕ) → AllFit [] (kept (fails_in n h e zero f)) → Ok (fails_in n h e zero f)
  quiet_zero e f = none_appended d n h v pr root outcome above half (opens place n d) inv up e f

  pub silent_fails : (e : Effect) → e.written ≡ [] → Fails e
  silent_fails e none = writes_none d n h v pr root outcome above half (opens place n d) inv up e none

  -- One record.
  module _ (e : Effect) (r : Record) (is_forced : Bool)
      (one : e.written ≡ record { entry = r; is_forced = is_forced } ∷ []) where
    abbrev then_half : ℕ → ℕ → Type 0
    then_half a f = own_half_at false (fails_in n h e (suc a) f) d
        ≡ failed_own (front_of d (fails_in n h e (suc a) f).forced) (wrote r b d q)

    behind : (a f : ℕ) → then_half a f
    behind a f = own_fails_behind (opens place n d) n h e a f d r is_forced one old

    pub aside_fails : IsAside (own_case turn) r → Fails e
    aside_fails x zero f fit = quiet_zero e f fit
    aside_fails x (suc a) f fit =
        Faults.fails_quietly d n v pr root outcome above half (opens place n d) inv
        (fails_in n h e (suc a) f) fit
        (holds e (suc a) f) up
        (behind a f ∙ ap (λ (z : OwnHalf). failed_own (front_of d (fails_in n h e (suc a) f).forced) z)
        (aside d r b q x))

    -- as this move, after the record
    own_fails_as : (x : OwnHalf) → wrote r (has (is_prepare (own_case turn)) n.life) (own_case turn)
        (half_in turn) ≡ x
        → (s : Reading)
        → ((front : OwnFront) → (front.prepare ≡ true → x.prepare_kept ≡ true)
        → R turn (failed_own front x) v ≡ ChildCrash.hardens_failed_child (as_front front) s)
        → Fits pr (r0 turn) s → Unforced s (r0 turn) → Fails e
    own_fails_as x w s same fits u zero f fit = quiet_zero e f fit
    own_fails_as x w s same fits u (suc a) f fit =
        let front = front_of d (fails_in n h e (suc a) f).forced in
        let half_then = behind a f ∙ ap (λ (z : OwnHalf). failed_own front z) w in
        Faults.fails_as d n v pr root outcome above half (opens place n d) inv (fails_in n h e (suc a) f) fit
        (holds e (suc a) f) s
        (ap (λ (z : OwnHalf). R turn z v) half_then
        ∙ same front (λ y. sym (ap (λ (z : OwnHalf). z.prepare_kept) half_then)
        ∙ in_first (is_prepare d) (fails_in n h e (suc a) f).forced (fails_in n h e (suc a) f).unforced y))
        fits u

  -- The records of the case.

  pub promise_fails : (e : Effect) (ts : List Ticket) (is_forced : Bool)
      → e.written ≡ record { entry = PrepareRecord d ts; is_forced = is_forced } ∷ []
      → (coordinator_view place n d).standing ≡ Collecting → Fails e
  promise_fails e ts is_forced one stands =
      let none = collecting_undecided (kept n) d (memory_of place n d).phase
      (sym (viewed place n d) ∙ stands) in
      let may = may_vote turn (asked_for turn stands) (at_collecting turn stands) in
      own_fails_as e (PrepareRecord d ts) is_forced one (Halves.promises q) (promises_record d ts b q)
      (ChildCrash.fails_to_promise (r0 turn))
      (λ front x. reading-fails_to_promise root outcome above half q v front
      (at_collecting turn stands) none.no_abort)
      (FailMoves.fails_to_promise pr (r0 turn) inv (record { asked = may.asked; is_open = may.is_open }))
      (record {
        failed = refl;
        prepared = refl;
        learnt_commit = refl;
        learnt_abort = refl;
        no_heuristic = refl;
        never_heuristic = refl;
        no_forgot = refl;
      })

  -- before the promise
  pub abort_fails : (e : Effect) (ts : List Ticket) (is_forced : Bool)
      → e.written ≡ record { entry = AbortRecord d ts; is_forced = is_forced } ∷ []
      → (coordinator_view place n d).standing ≡ Collecting → Fails e
  abort_fails e ts is_forced one stands =
      let s = silent_at turn stands in
      own_fails_as e (AbortRecord d ts) is_forced one (Halves.aborts b q) (aborts_record d ts b q)
      (ChildCrash.child_fails (r0 turn))
      (λ front x. reading-fails_aborting root outcome above half q v front b
      (at_collecting turn stands) s.issued
      s.none_kept s.none_ever s.no_read x)
      (FailMoves.child_fails pr (r0 turn) inv (record { up = up }))
      (record {
        failed = refl;
        prepared = refl;
        learnt_commit = refl;
        learnt_abort = refl;
        no_heuristic = refl;
        never_heuristic = refl;
        no_forgot = refl;
      })

  -- after it
  pub commit_fails : (e : Effect) (ts : List Ticket) (is_forced : Bool)
      → e.written ≡ record { entry = CommitRecord d ts; is_forced = is_forced } ∷ []
      → (j : ℕ) → h.input ≡ MessageInput j (Commit d) → (coordinator_view place n d).standing ≡ Prepared
      → Fails e
  commit_fails e ts is_forced one j i stands =
      let doubt = doubt_at turn stands in
      own_fails_as e (CommitRecord d ts) is_forced one (Halves.commits q) (commits_record d ts b q)
      (ChildCrash.fails_to_commit (r0 turn))
      (λ front x. reading-fails_to_commit root outcome above half q v front
      (prepared_closed turn stands) doubt.prepared)
      (FailMoves.fails_to_commit pr (r0 turn) inv (record
      { up = up; told = commit_sent turn j i; in_doubt = doubt }))
      (record {
        failed = refl;
        prepared = refl;
        learnt_commit = refl;
        learnt_abort = refl;
        no_heuristic = refl;
        never_heuristic = refl;
        no_forgot = refl;
      })

  pub roll_back_fails : (e : Effect) (ts : List Ticket) (is_forced : Bool)
      → e.written ≡ record { entry = AbortRecord d ts; is_forced = is_forced } ∷ []
      → (j : ℕ) → h.input ≡ MessageInput j (Abort d) → (coordinator_view place n d).standing ≡ Prepared
      → Fails e
  roll_back_fails e ts is_forced one j i stands =
      let doubt = doubt_at turn stands in
      own_fails_as e (AbortRecord d ts) is_forced one (Halves.aborts true q)
      (aborts_record d ts b q ∙ ap (λ x. Halves.aborts x q) (promise_written doubt.prepared))
      (ChildCrash.fails_to_roll_back (r0 turn))
      (λ front x. reading-fails_to_roll_back root outcome above half q v front (prepared_closed turn stands)
      doubt.prepared)
      (FailMoves.fails_to_roll_back pr (r0 turn) inv
      (record { up = up; told = abort_sent turn j i; in_doubt = doubt }))
      (record {
        failed = refl;
        prepared = refl;
        learnt_commit = refl;
        learnt_abort = refl;
        no_heuristic = refl;
        never_heuristic = refl;
        no_forgot = refl;
      })

  -- Every row.

  abbrev view : Case → CoordinatorView
  view x = coordinator_view place n x

  own_row : (r : Row) → CaseTurn place (Some p) n h d r → Fails (row_effect d r)
  own_row r (rests i) = silent_fails (row_effect d r) refl
  own_row r (invites x i e f g) = silent_fails (row_effect d r) refl
  own_row r (accepts u i e f) = silent_fails (row_effect d r) refl
  own_row r (sends_work x u op i e f g) = silent_fails (row_effect d r) refl
  own_row r (finds_nobody i f g) = silent_fails (row_effect d r) refl
  own_row r (asks_for_votes PresumeAbort i e f g) = silent_fails (row_effect d r) refl
  own_row r (asks_for_votes PresumeCommit i e f g) =
      aside_fails (row_effect d r) (CollectingRecord d (view d).accepted) true refl
      (record { no_prepare = refl; no_commit = refl; no_abort = refl })
  own_row r (gives_up why x i f g) = silent_fails (row_effect d r) refl
  own_row r (counts_vote u w i e f) = silent_fails (row_effect d r) refl
  own_row r (reads_only u w ys PresumeAbort i e f) = silent_fails (row_effect d r) refl
  own_row r (reads_only u w ys PresumeCommit i e f) =
      aside_fails (row_effect d r) (EndRecord d None) false refl
      (record { no_prepare = refl; no_commit = refl; no_abort = refl })
  own_row r (commits u w ys x i e f g) = absurd (cc)
  own_row r (promises u w ys x i e f) = promise_fails (row_effect d r) ys true refl i.vote.stands
  own_row r (hears_no u us PresumeAbort i e f) = abort_fails (row_effect d r) [] false refl i.stands
  own_row r (hears_no u us PresumeCommit i e f) = abort_fails (row_effect d r) us true refl i.stands
  own_row r (aborts why us PresumeAbort i f g l) = abort_fails (row_effect d r) [] false refl f
  own_row r (aborts why us PresumeCommit i f g l) = abort_fails (row_effect d r) us true refl f
  own_row r (passes_commit PresumeAbort i e f) =
      commit_fails (row_effect d r) (view d).promised true refl i.hears.0 i.hears.1 e
  own_row r (passes_commit PresumeCommit i e f) = commit_fails (row_effect d r)
      [] false refl i.hears.0 i.hears.1 e
  own_row r (passes_abort PresumeAbort i e f) = roll_back_fails (row_effect d r)
      [] false refl i.hears.0 i.hears.1 e
  own_row r (passes_abort PresumeCommit i e f) =
      roll_back_fails (row_effect d r) (view d).promised true refl i.hears.0 i.hears.1 e
  own_row r (repeats_yes j i e) = silent_fails (row_effect d r) refl
  own_row r (asks i e) = silent_fails (row_effect d r) refl
  own_row r (refuses j i e) = silent_fails (row_effect d r) refl
  own_row r (acknowledges o fs i e) = silent_fails (row_effect d r) refl
  own_row r (waits_for_acks u o fs i e f g) = silent_fails (row_effect d r) refl
  own_row r (ends u o fs i e f g) =
      aside_fails (row_effect d r) (EndRecord d None) false
      (plain_end t.child p d h.version (found_below place n d o fs))
      (record { no_prepare = refl; no_commit = refl; no_abort = refl })
  own_row r (clears i e f g) = absurd (cc)
  own_row r (answers u o i e) = silent_fails (row_effect d r) refl

  module _ (x : Case) (other : same_case x (own_case turn) ≡ false) where
    aside_abort : (ts : List Ticket) → IsAside (own_case turn) (AbortRecord x ts)
    aside_abort ts = record { no_prepare = refl; no_commit = refl; no_abort = other }

    aside_commit : (ts : List Ticket) → IsAside (own_case turn) (CommitRecord x ts)
    aside_commit ts = record { no_prepare = refl; no_commit = other; no_abort = refl }

    other_row : (r : Row) → CaseTurn place (Some p) n h x r → Fails (row_effect x r)
    other_row r (rests i) = silent_fails (row_effect x r) refl
    other_row r (invites y i e f g) = silent_fails (row_effect x r) refl
    other_row r (accepts u i e f) = silent_fails (row_effect x r) refl
    other_row r (sends_work y u op i e f g) = silent_fails (row_effect x r) refl
    other_row r (finds_nobody i f g) = silent_fails (row_effect x r) refl
    other_row r (asks_for_votes PresumeAbort i e f g) = silent_fails (row_effect x r) refl
    other_row r (asks_for_votes PresumeCommit i e f g) =
        aside_fails (row_effect x r) (CollectingRecord x (view x).accepted) true refl
        (record { no_prepare = refl; no_commit = refl; no_abort = refl })
    other_row r (gives_up why y i f g) = silent_fails (row_effect x r) refl
    other_row r (counts_vote u w i e f) = silent_fails (row_effect x r) refl
    other_row r (reads_only u w ys PresumeAbort i e f) = silent_fails (row_effect x r) refl
    other_row r (reads_only u w ys PresumeCommit i e f) =
        aside_fails (row_effect x r) (EndRecord x None) false refl
        (record { no_prepare = refl; no_commit = refl; no_abort = refl })
    other_row r (commits u w ys y i e f g) = absurd (cc)
    other_row r (promises u w ys y i e f) =
        aside_fails (row_effect x r) (PrepareRecord x ys) true refl
        (record { no_prepare = other; no_commit = refl; no_abort = refl })
    other_row r (hears_no u us PresumeAbort i e f) =
        aside_fails (row_effect x r) (AbortRecord x []) false refl (aside_abort [])
    other_row r (hears_no u us PresumeCommit i e f) = aside_fails (row_effect x r)
        (AbortRecord x us) true refl (aside_abort us)
    other_row r (aborts why us PresumeAbort i f g l) = aside_fails (row_effect x r)
        (AbortRecord x []) false refl (aside_abort [])
    other_row r (aborts why us PresumeCommit i f g l) = aside_fails (row_effect x r)
        (AbortRecord x us) true refl (aside_abort us)
    other_row r (passes_commit PresumeAbort i e f) =
        aside_fails (row_effect x r) (CommitRecord x (view x).promised) true refl
        (aside_commit (view x).promised)
    other_row r (passes_commit PresumeCommit i e f) =
        aside_fails (row_effect x r) (CommitRecord x []) false refl (aside_commit [])
    other_row r (passes_abort PresumeAbort i e f) =
        aside_fails (row_effect x r) (AbortRecord x []) false refl (aside_abort [])
    other_row r (passes_abort PresumeCommit i e f) =
        aside_fails (row_effect x r) (AbortRecord x (view x).promised) true refl
        (aside_abort (view x).promised)
    other_row r (repeats_yes j i e) = silent_fails (row_effect x r) refl
    other_row r (asks i e) = silent_fails (row_effect x r) refl
    other_row r (refuses j i e) = silent_fails (row_effect x r) refl
    other_row r (acknowledges o fs i e) = silent_fails (row_effect x r) refl
    other_row r (waits_for_acks u o fs i e f g) = silent_fails (row_effect x r) refl
    other_row r (ends u o fs i e f g) =
        aside_fails (row_effect x r) (EndRecord x None) false
        (plain_end t.child p x h.version (found_below place n x o fs))
        (record { no_prepare = refl; no_commit = refl; no_abort = refl })
    other_row r (clears i e f g) = absurd (cc)
    other_row r (answers u o i e) = silent_fails (row_effect x r) refl

  case_row : (x : Case) (r : Row) → CaseTurn place (Some p) n h x r → Fails (row_effect x r)
  case_row x r i = elim (same_case_tells x d) [
    | inl s ↦ subst (λ (z : Case). CaseTurn place (Some p) n h z r → Fails (row_effect z r)) (sym s.1)
        (own_row r) i
    | inr f ↦ other_row x f.0 r i
  ]

  pub turn_fails : (e : Effect) → CoordinatorTurn place (Some p) n h e → Fails e
  turn_fails e (does_nothing i) = silent_fails e refl
  turn_fails e (of_case x r i) = case_row x r i
  turn_fails e (begins y g i) = absurd (cc)
  turn_fails e (gives_again y x u g i f) = silent_fails e refl
  turn_fails e (gives_fresh y x g i f) = silent_fails e refl
  turn_fails e (presumes x u i g) = silent_fails e refl
