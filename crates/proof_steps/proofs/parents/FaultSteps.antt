-- Each turn of a coordinator keeps the pair where the device fails in it.
use Rattle.std.proofs.Common.{◌≡◌, ◌≢◌, ◌∙◌, ◌⊎◌, inl, inr, ℕ, Bool, true, false, Some, None, [], ◌∷◌, take, refl, sym, ap, subst}
use Rattle.std.proofs.Math.Seq.{take-nil}
use Rattle.protocol.specs.declared.names.Case.{Case}
use Rattle.protocol.specs.declared.names.Ticket.{Ticket}
use Rattle.protocol.specs.declared.names.Presumption.{Presumption}
use Rattle.protocol.specs.declared.names.Presumption.TheVariants.{PresumeAbort, PresumeCommit}
use Rattle.protocol.specs.declared.names.ProcessId.{ProcessId}
use Rattle.protocol.specs.declared.messages.Message.TheVariants.{Join, Joined}
use Rattle.protocol.specs.declared.records.Record.{Record}
use Rattle.protocol_words.specs.Variants.{ActInput, ClearedRecord, VoteNo, VoteRead, VoteYes}
use Rattle.protocol.specs.declared.events.Act.TheVariants.{Begin}
use Rattle.protocol.specs.declared.standings.Standing.TheVariants.{Active, Prepared}
use Rattle.protocol.specs.declared.standings.Vote.{Vote}
use Rattle.protocol.specs.Names.{same_case, child_case, root_case}
use Rattle.protocol.specs.NameLaws.{same_case_tells}
use Rattle.protocol.specs.Nodes.{Effect, entries_written, fails_in, kept, no_effect}
use Rattle.protocol.specs.Memory.{Phase, Open, Asked, Over, active_ticket, all_voted, has_child, memory_of, same_vote}
use Rattle.protocol.specs.CoordinatorRows.{Row}
use Rattle.protocol.specs.Reactions.{row_effect}
use Rattle.protocol.specs.Views.{begin_effect}
use Rattle.proof_pairs.specs.Reading.{is_live}
use Rattle.proof_pairs.specs.RootMoves
use Rattle.proof_pairs.specs.ParentCrash
use Rattle.proof_pairs.specs.readings.ReadingOf.{ParentHalf, ChildHalf, Wire, reading_from, is_begun, is_dead}
use Rattle.proof_pairs.specs.turns.CoordinatorTurns.{CaseTurn, CoordinatorTurn}
use Rattle.proof_pairs.specs.turns.CoordinatorTurns
use Rattle.proof_pairs.specs.turns.LeafTurns.{Hears as HearsMessage}
use Rattle.proof_processes.specs.WorldHolds.{InOrder}
use Rattle.proof_steps.proofs.children.Moves.{unmoved}
use Rattle.proof_steps.proofs.parents.Born
use Rattle.proof_steps.proofs.parents.Elsewhere
use Rattle.proof_steps.proofs.parents.Elsewhere.{WroteElsewhere, none_written as wrote_none, one_plain, one_forced}
use Rattle.proof_steps.proofs.parents.ElsewhereRows
use Rattle.proof_steps.proofs.parents.FaultCases
use Rattle.proof_steps.proofs.parents.FaultEnds
use Rattle.proof_steps.proofs.parents.FaultHears.{Hears}
use Rattle.proof_steps.proofs.parents.FaultNothing.{nothing_appended, appended_elsewhere}
use Rattle.proof_steps.proofs.parents.FaultOwn
use Rattle.proof_steps.proofs.parents.FaultTurns.{left_one, none_written, nothing_as}
use Rattle.proof_steps.proofs.parents.Faults.{Fault_fine, down, heard_so}
use Rattle.proof_steps.proofs.parents.Memories
use Rattle.proof_steps.proofs.parents.Moves
use Rattle.proof_steps.proofs.parents.NoCase
use Rattle.proof_steps.proofs.parents.Own
use Rattle.proof_steps.proofs.parents.Own.{Goes}
use Rattle.proof_steps.proofs.parents.OwnActive
use Rattle.proof_steps.proofs.parents.OwnMoves.{and_then, read_as}
use Rattle.proof_steps.proofs.parents.OwnPromised.{is_below, not_open}
use Rattle.proof_steps.proofs.parents.OwnQuiet.{rest_nothing, rest_prepare, rest_outcome}
use Rattle.proof_steps.proofs.parents.OwnTurns.{refuses_late, acknowledges_late}
use Rattle.proof_steps.proofs.parents.OwnVotes.{goes_on}
use Rattle.proof_steps.proofs.parents.Quiet.{Rests, Unrelated, cleared_unrelated, rests_as}
use Rattle.proof_steps.proofs.parents.Rested
use Rattle.proof_steps.proofs.parents.Turns.{Turn, Says, half, net_part, told_outcome, reading, at_root}
use Rattle.proof_steps.proofs.parents.Votes

dead-now : is_dead false false true false ≡ true
unfolding is_dead
dead-now = refl

-- the device failed as the transaction began
reading-fails_begun : (manager above o : Bool) (k : ChildHalf) (p : ParentHalf) (v : Wire)
    → p.commit_kept ≡ false → o ≡ false
    → reading_from true manager o above (down p.accepted p.acked true p) k v
    ≡ ParentCrash.parent_fails (RootMoves.begins (reading_from true manager o above p k v))
reading-fails_begun manager above o k p v f g = rw (f, g) (simp (dead-now))

module _ (turn : Turn) where
  open turn use {place, parent, n, h, net, c, t, manager, above, k, up, inv}

  abbrev p0 : ParentHalf
  p0 = half turn

  abbrev v0 : Wire
  v0 = net_part turn

  abbrev o0 : Bool
  o0 = told_outcome turn

  abbrev Ordered : Effect → ℕ → ℕ → Type 0
  Ordered e x f = InOrder c (kept (fails_in n h e x f))

  abbrev Fails : Effect → ℕ → ℕ → Type 0
  Fails e x f = Fault_fine turn e x f

  -- The pair's own case.

  -- the records of the case are in order after the fault
  pub record Orders (row : Row) (x f : ℕ) : Type 0 where
    pub is : InOrder c (kept (fails_in n h (row_effect c row) x f))

  rests_fault : (row : Row) (x f : ℕ) → Orders row x f → row.written ≡ [] → row.accepts ≡ [] → row.counts ≡ []
      → Rests turn → Fails (row_effect c row) x f
  rests_fault row x f order none no_ticket no_vote r =
      none_written turn (row_effect c row) x f order.is none
      (FaultOwn.of_rests turn (row_effect c row) (rw (no_ticket, no_vote) refl) r)

  goes_fault : (row : Row) (x f : ℕ) → Orders row x f → row.written ≡ [] → row.accepts ≡ [] → row.counts ≡ []
      → (ph : Phase) → is_live p0.phase ≡ true → Goes turn ph → is_begun ph ≡ true
      → Fails (row_effect c row) x f
  goes_fault row x f order none no_ticket no_vote ph l s b =
      none_written turn (row_effect c row) x f order.is none
      (FaultOwn.plain_goes turn row ph l s b (rw (no_ticket, no_vote) refl))

  own_fault : (row : Row) → CaseTurn place parent n h c row → (x f : ℕ) → Orders row x f
      → Fails (row_effect c row) x f
  own_fault _ (CoordinatorTurns.rests r) x f order =
      rests_fault _ x f order refl refl refl (rest_nothing turn r)
  own_fault _ (CoordinatorTurns.invites q i e g j) x f order =
      rests_fault _ x f order refl refl refl (Rested.rest_same turn (Memories.join_act turn c q i))
  own_fault _ (CoordinatorTurns.accepts u i e g) x f order = joined_fault _ x f order refl u i e g refl refl
    where
      joined_fault : (row : Row) (x f : ℕ) → Orders row x f → row.written ≡ [] → (u : Ticket)
          → HearsMessage h (Joined c u)
          → (Own.v turn).standing ≡ Active → has_child (Own.v turn).accepted u.child ≡ false → row.accepts
          ≡ u ∷ [] → row.counts ≡ []
          → Fails (row_effect c row) x f
      joined_fault row x f order none u i e g one no_vote =
          none_written turn (row_effect c row) x f order.is none
          (FaultOwn.joined_goes turn u i e g row one no_vote)
  own_fault _ (CoordinatorTurns.sends_work q u op i e g j) x f order =
      rests_fault _ x f order refl refl refl (Rested.rest_work turn c q op i)
  own_fault _ (CoordinatorTurns.finds_nobody i e g) x f order =
      goes_fault _ x f order refl refl refl Over (FaultOwn.active_live turn e)
      (OwnActive.nobody_says turn i e g) refl
  own_fault _ (CoordinatorTurns.asks_for_votes p i e g q) x f order =
      FaultCases.asks_for_votes turn p i e g q x f order.is
  own_fault _ (CoordinatorTurns.gives_up why p i e q) x f order =
      goes_fault _ x f order refl refl refl Over (FaultOwn.active_live turn e)
      (Own.to_abort turn why i (inl (Own.active_open turn e))) refl
  own_fault _ (CoordinatorTurns.counts_vote u w i j e) x f order =
      voted_fault _ x f order refl u w i j refl refl e
    where
      voted_fault : (row : Row) (x f : ℕ) → Orders row x f → row.written ≡ [] → (u : Ticket) (w : Vote)
          → (i : CoordinatorTurns.CountsVote place n h c u w) → CoordinatorTurns.Consents w → row.accepts ≡ []
          → row.counts
          ≡ (u, w) ∷ []
          → all_voted (Own.v turn).accepted (CoordinatorTurns.voted (Own.v turn) u w).votes ≡ false
          → Fails (row_effect c row) x f
      voted_fault row x f order none u w i j no_ticket one e =
          none_written turn (row_effect c row) x f order.is none
          (FaultOwn.vote_goes turn (row_effect c row) u w i j (rw no_ticket refl) (rw one refl) Asked
          (Votes.vote_says turn u w i Asked (goes_on w j _ ∙ rw (Votes.all_seen turn u w i false e) refl))
          refl)
  own_fault _ (CoordinatorTurns.reads_only u w ys p l e q) x f order =
      FaultCases.reads_only turn u w ys l p e q x f order.is
  own_fault _ (CoordinatorTurns.commits u w ys p l e s q) x f order =
      FaultCases.commits turn u w ys l p s q x f order.is
  own_fault _ (CoordinatorTurns.promises u w ys p l e s) x f order =
      FaultCases.promises turn u w ys l p s x f order.is
  own_fault _ (CoordinatorTurns.hears_no u us p i g q) x f order =
      FaultCases.hears_no turn u us i g p q x f order.is
  own_fault _ (CoordinatorTurns.aborts why us p i e g q) x f order =
      FaultCases.aborts_at turn why us p i e g q x f order.is
  own_fault _ (CoordinatorTurns.passes_commit p i e q) x f order =
      FaultEnds.passes_commit turn p i e q x f order.is
  own_fault _ (CoordinatorTurns.passes_abort p i e q) x f order =
      FaultEnds.passes_abort turn p i e q x f order.is
  own_fault _ (CoordinatorTurns.repeats_yes j i e) x f order =
      rests_fault _ x f order refl refl refl
      (rest_prepare turn j i (λ o. not_open turn Prepared e (λ z. cc) o))
  own_fault _ (CoordinatorTurns.asks i e) x f order =
      rests_fault _ x f order refl refl refl (Rested.rest_same turn (Memories.ask_act turn c i))
  own_fault _ (CoordinatorTurns.refuses j i e) x f order =
      rests_fault _ x f order refl refl refl
      (rest_prepare turn j i (λ o. refuses_late turn (Own.v turn).standing e refl o))
  own_fault _ (CoordinatorTurns.acknowledges o fs i e) x f order =
      let late =
      acknowledges_late turn h.version c o c.txn.presumption (Own.v turn).standing fs e refl in
      rests_fault _ x f order refl refl refl (rest_outcome turn o i late.0 late.1)
  own_fault _ (CoordinatorTurns.waits_for_acks u o fs i e g j) x f order =
      rests_fault _ x f order refl refl refl (Rested.rest_ack turn o fs i.txn u i.hears.0 i.hears.1)
  own_fault _ (CoordinatorTurns.ends u o fs i e g j) x f order = FaultEnds.ends turn u o fs i e j x f order.is
  own_fault _ (CoordinatorTurns.clears i e g j) x f order =
      cleared_fault _ x f order refl refl refl (Rested.rest_same turn (Memories.forget_act turn c i))
    where
      cleared_fault : (row : Row) (x f : ℕ) → Orders row x f
          → entries_written row.written ≡ ClearedRecord c ∷ []
          → row.accepts ≡ [] → row.counts ≡ [] → Rests turn → Fails (row_effect c row) x f
      cleared_fault row x f order one no_ticket no_vote r = elim (left_one x (ClearedRecord c)) [
        | inl none ↦ nothing_appended turn (row_effect c row) x f order.is says
            (ap (λ l. take x l) one ∙ none)
        | inr all ↦ appended_elsewhere turn (row_effect c row) x f order.is says (ClearedRecord c)
            (ap (λ l. take x l) one ∙ all) (cleared_unrelated turn c)
      ]
        where
          says : Hears turn (row_effect c row)
          says = FaultOwn.of_rests turn (row_effect c row) (rw (no_ticket, no_vote) refl) r
  own_fault _ (CoordinatorTurns.answers u o i e) x f order =
      rests_fault _ x f order refl refl refl
      (Rested.rest_same turn (Memories.inquires turn (child_case i.txn u) i.hears.0 i.hears.1))

  -- Another case.

  module _ (d : Case) (other : same_case d c ≡ false) where
    heard_nothing : (row : Row) → heard_so (row_effect d row) c t p0 ≡ p0
    heard_nothing row =
        rw (
          Elsewhere.other_accepts c d t row.accepts other,
          Elsewhere.other_counts c d t (same_vote VoteYes) row.counts other,
          Elsewhere.other_counts c d t (same_vote VoteNo) row.counts other,
          Elsewhere.other_counts c d t (same_vote VoteRead) row.counts other,
        )
        refl

    by_wrote : (row : Row) → CaseTurn place parent n h d row → WroteElsewhere turn d other row.written
        → (x f : ℕ)
        → Ordered (row_effect d row) x f → Fails (row_effect d row) x f
    by_wrote row r w x f order = by_written w
      where
        y : Hears turn (row_effect d row)
        y = FaultOwn.of_rests turn (row_effect d row) (heard_nothing row)
            (ElsewhereRows.rests_elsewhere turn d other row r)

        one : (s : Record) → entries_written row.written ≡ s ∷ [] → Unrelated turn s
            → Fails (row_effect d row) x f
        one s e u = elim (left_one x s) [
          | inl none ↦ nothing_appended turn (row_effect d row) x f order y (ap (λ l. take x l) e ∙ none)
          | inr all ↦ appended_elsewhere turn (row_effect d row) x f order y s (ap (λ l. take x l) e ∙ all) u
        ]

        by_written : WroteElsewhere turn d other row.written → Fails (row_effect d row) x f
        by_written (wrote_none e) = none_written turn (row_effect d row) x f order e y
        by_written (one_plain s e u) = one s (ap entries_written e) u
        by_written (one_forced s e u) = one s (ap entries_written e) u

    -- what is written for another case
    wrote_elsewhere : (row : Row) → CaseTurn place parent n h d row → WroteElsewhere turn d other row.written
    wrote_elsewhere _ (CoordinatorTurns.asks_for_votes PresumeAbort i e g q) = wrote_none refl
    wrote_elsewhere _ (CoordinatorTurns.asks_for_votes PresumeCommit i e g q) =
        one_forced _ refl (Elsewhere.other_collecting turn d other _)
    wrote_elsewhere _ (CoordinatorTurns.reads_only u w ys PresumeAbort l e q) = wrote_none refl
    wrote_elsewhere _ (CoordinatorTurns.reads_only u w ys PresumeCommit l e q) = one_plain _ refl
        (Elsewhere.other_end turn d other None)
    wrote_elsewhere _ (CoordinatorTurns.commits u w ys PresumeAbort l e s q) =
        one_forced _ refl (Elsewhere.other_commit turn d other ys)
    wrote_elsewhere _ (CoordinatorTurns.commits u w ys PresumeCommit l e s q) =
        one_forced _ refl (Elsewhere.other_commit turn d other [])
    wrote_elsewhere _ (CoordinatorTurns.promises u w ys p l e s) = one_forced _ refl
        (Elsewhere.other_prepare turn d other ys)
    wrote_elsewhere _ (CoordinatorTurns.hears_no u us PresumeAbort i g q) = one_plain _ refl
        (Elsewhere.other_abort turn d other [])
    wrote_elsewhere _ (CoordinatorTurns.hears_no u us PresumeCommit i g q) =
        one_forced _ refl (Elsewhere.other_abort turn d other us)
    wrote_elsewhere _ (CoordinatorTurns.aborts why us PresumeAbort i e g q) =
        one_plain _ refl (Elsewhere.other_abort turn d other [])
    wrote_elsewhere _ (CoordinatorTurns.aborts why us PresumeCommit i e g q) =
        one_forced _ refl (Elsewhere.other_abort turn d other us)
    wrote_elsewhere _ (CoordinatorTurns.passes_commit PresumeAbort i e q) =
        one_forced _ refl (Elsewhere.other_commit turn d other _)
    wrote_elsewhere _ (CoordinatorTurns.passes_commit PresumeCommit i e q) =
        one_plain _ refl (Elsewhere.other_commit turn d other [])
    wrote_elsewhere _ (CoordinatorTurns.passes_abort PresumeAbort i e q) = one_plain _ refl
        (Elsewhere.other_abort turn d other [])
    wrote_elsewhere _ (CoordinatorTurns.passes_abort PresumeCommit i e q) =
        one_forced _ refl (Elsewhere.other_abort turn d other _)
    wrote_elsewhere _ (CoordinatorTurns.ends u o fs i e g j) = Elsewhere.ended_by turn d other _
    wrote_elsewhere _ (CoordinatorTurns.rests r) = wrote_none refl
    wrote_elsewhere _ (CoordinatorTurns.invites q i e g j) = wrote_none refl
    wrote_elsewhere _ (CoordinatorTurns.accepts u i e g) = wrote_none refl
    wrote_elsewhere _ (CoordinatorTurns.sends_work q u op i e g j) = wrote_none refl
    wrote_elsewhere _ (CoordinatorTurns.finds_nobody i e g) = wrote_none refl
    wrote_elsewhere _ (CoordinatorTurns.gives_up why p i e q) = wrote_none refl
    wrote_elsewhere _ (CoordinatorTurns.counts_vote u w i j e) = wrote_none refl
    wrote_elsewhere _ (CoordinatorTurns.repeats_yes j i e) = wrote_none refl
    wrote_elsewhere _ (CoordinatorTurns.asks i e) = wrote_none refl
    wrote_elsewhere _ (CoordinatorTurns.refuses j i e) = wrote_none refl
    wrote_elsewhere _ (CoordinatorTurns.acknowledges o fs i e) = wrote_none refl
    wrote_elsewhere _ (CoordinatorTurns.waits_for_acks u o fs i e g j) = wrote_none refl
    wrote_elsewhere _ (CoordinatorTurns.clears i e f g) = one_forced _ refl (cleared_unrelated turn d)
    wrote_elsewhere _ (CoordinatorTurns.answers u o i e) = wrote_none refl

    other_fault : (row : Row) → CaseTurn place parent n h d row → (x f : ℕ) → Ordered (row_effect d row) x f
        → Fails (row_effect d row) x f
    other_fault row r x f order = by_wrote row r (wrote_elsewhere row r) x f order

  -- A case is born.

  born_hears : (e : Effect) → heard_so e c t p0 ≡ p0 → Says turn Open p0.accepted p0.acked → at_root turn
      ≡ false → Hears turn e
  born_hears e is s b = record {
    phase = Open;
    accepted = p0.accepted;
    acked = p0.acked;
    says = s;
    half_then = p0;
    is = is;
    same_phase = refl;
    same_begun = refl;
    fits = unmoved c.txn.presumption (reading turn) inv;
    lives = λ l. refl;
    rests = λ l i. absurd (let z = sym b ∙ i in cc);
  }

  fresh_fault : (p : ProcessId) (d : Case) → (s : parent ≡ Some p) → (i : HearsMessage h (Join d))
      → (e : active_ticket (memory_of place n d).active d ≡ None) → (x f : ℕ)
      → Ordered (Born.answer turn p d (Born.fresh turn d)) x f
      → Fails (Born.answer turn p d (Born.fresh turn d)) x f
  fresh_fault p d s i e x f order = by_test (same_case c (child_case d.txn (Born.fresh turn d))) refl
    where
      by_test : (b : Bool) → Born.IsFresh turn d b → Fails (Born.answer turn p d (Born.fresh turn d)) x f
      by_test false g =
          none_written turn (Born.answer turn p d (Born.fresh turn d)) x f order refl
          (FaultOwn.of_rests turn (Born.answer turn p d (Born.fresh turn d)) refl
          (rests_as turn (Born.fresh_elsewhere turn p d s i e g)))
      by_test true g =
          none_written turn (Born.answer turn p d (Born.fresh turn d)) x f order refl
          (born_hears (Born.answer turn p d (Born.fresh turn d)) refl (Born.fresh_says turn p d s i e g)
          (is_below turn p s))

  begin_fault : (q : Presumption) (s : parent ≡ None) (i : h.input ≡ ActInput (Begin q)) (x f : ℕ)
      → Ordered (begin_effect (Born.begun_txn turn q)) x f → Fails (begin_effect (Born.begun_txn turn q)) x f
  begin_fault q s i x f order = by_test (same_case (root_case (Born.begun_txn turn q)) c) refl
    where
      by_test : (b : Bool) → Born.IsNew turn q b → Fails (begin_effect (Born.begun_txn turn q)) x f
      by_test false g =
          none_written turn (begin_effect (Born.begun_txn turn q)) x f order refl
          (FaultOwn.of_rests turn (begin_effect (Born.begun_txn turn q)) refl
          (rests_as turn (Born.begin_elsewhere turn q s i g)))
      by_test true g =
          let at = Born.at_the_root turn q s i in
          let u = (Own.common turn).unborn (Born.begin_unborn turn q s i g) in
          let fits = Born.begin_fits turn q s i g in
          nothing_as turn (begin_effect (Born.begun_txn turn q)) x f order (take-nil {A = Record} x) Open
          p0.accepted p0.acked
          (Born.begin_says turn q s i g) p0 refl
          (read_as turn _ _
          (subst (λ b. o0 ≡ false → reading_from b manager o0 above (down p0.accepted p0.acked true p0) k v0
          ≡ ParentCrash.parent_fails (RootMoves.begins (reading_from b manager o0 above p0 k v0))) (sym at)
          (λ z. reading-fails_begun manager above o0 k p0 v0 u.no_commit z) (u.root_undecided at))
          (and_then turn (RootMoves.begins (reading turn)) _ fits
          (Moves.parent_fails c.txn.presumption (RootMoves.begins (reading turn)) fits.invariant
          (record { up = up }))))

  -- Each turn.
  pub turn_fails : (e : Effect) → CoordinatorTurn place parent n h e → (x f : ℕ) → Ordered e x f → Fails e x f
  turn_fails _ (CoordinatorTurns.does_nothing i) x f order =
      none_written turn no_effect x f order refl
      (FaultOwn.of_rests turn no_effect refl (NoCase.of_no_case turn i))
  turn_fails _ (CoordinatorTurns.of_case d row r) x f order = by_case (same_case_tells d c)
    where
      by_case : ((same_case d c ≡ true) × (d ≡ c)) ⊎ ((same_case d c ≡ false) × (d ≢ c))
          → Fails (row_effect d row) x f
      by_case (inl same) =
          subst (λ (z : Case). CaseTurn place parent n h z row → Ordered (row_effect z row) x f
          → Fails (row_effect z row) x f)
          (sym same.1) (λ s o. own_fault row s x f (record { is = o })) r order
      by_case (inr other) = other_fault d other.0 row r x f order
  turn_fails _ (CoordinatorTurns.begins q s i) x f order = begin_fault q s i x f order
  turn_fails _ (CoordinatorTurns.gives_again p d u s i e) x f order =
      none_written turn (Born.answer turn p d u) x f order refl
      (FaultOwn.of_rests turn (Born.answer turn p d u) refl
      (rests_as turn (Born.again_says turn p d u s i e)))
  turn_fails _ (CoordinatorTurns.gives_fresh p d s i e) x f order = fresh_fault p d s i e x f order
  turn_fails _ (CoordinatorTurns.presumes y u i none) x f order =
      none_written turn (NoCase.told turn y u) x f order refl
      (FaultOwn.of_rests turn (NoCase.told turn y u) refl
      (Rested.rest_same turn (Memories.inquires turn (child_case y u) i.0 i.1)))
