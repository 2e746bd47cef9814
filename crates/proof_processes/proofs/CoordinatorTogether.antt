-- A row of a coordinator leaves the phase and the standing of its own case together.
use Rattle.std.proofs.Common.{◌≡◌, ◌∙◌, ℕ, Bool, true, false, Option, None, List, [], ◌∷◌, ◌++◌, refl, sym, ap, subst, if◌then◌else◌}
use Rattle.std.proofs.lemmas.List.{append-nil}
use Rattle.protocol.specs.declared.names.Case.{Case}
use Rattle.protocol.specs.declared.names.ProcessId.{ProcessId}
use Rattle.protocol.specs.declared.names.Ticket.{Ticket}
use Rattle.protocol.specs.declared.names.Txn.{Txn}
use Rattle.protocol.specs.declared.names.Outcome.{Outcome}
use Rattle.protocol.specs.declared.names.Presumption.{Presumption}
use Rattle.protocol.specs.declared.names.Presumption.TheVariants.{PresumeAbort, PresumeCommit}
use Rattle.protocol.specs.declared.records.Record.{Record}
use Rattle.protocol_words.specs.Variants.{AbortRecord, ClearedRecord, CollectingRecord, CommitRecord, EndRecord, PrepareRecord, VoteNo}
use Rattle.protocol.specs.declared.standings.Standing.{Standing}
use Rattle.protocol.specs.declared.standings.Standing.TheVariants.{Unknown, Active, Collecting, Prepared, Committing, Aborting}
use Rattle.protocol.specs.declared.standings.Vote.{Vote}
use Rattle.protocol.specs.declared.messages.Message.TheVariants.{Prepare, Commit, Abort}
use Rattle.protocol.specs.declared.trees.TreeProcess.{TreeProcess}
use Rattle.protocol.specs.Names.{root_case}
use Rattle.protocol.specs.Records.{has, none_of, is_end, is_commit, is_abort, is_prepare, is_collecting, owing_by}
use Rattle.protocol.specs.Nodes.{Version, Place, Node, Heard, kept, entries_written}
use Rattle.protocol.specs.Memory.{Memory, Phase, Idle, Open, Asked, Over, memory_of, is_counted, all_voted, phase_after}
use Rattle.protocol.specs.Standings.{CoordinatorView, coordinator_view, phase_standing}
use Rattle.protocol.specs.CoordinatorRows.{Reason, Row, tells_outcome}
use Rattle.proof_model.proofs.StandingLaws.{active_facts, phase_active}
use Rattle.proof_pairs.specs.turns.CoordinatorTurns.{IsToCommit, IsToAbort, HearsParent, Acknowledges, commit_presumed_abort, commit_again, abort_presumed_commit, abort_again, PromisesNoMore, unknown_refuses, aborting_refuses, HasDecided, by_commit, by_abort, voted, Consents, votes_yes, votes_read, CountsVote, RestsBy, invited_already, takes_nobody, counts_nothing, owes_nothing, knows_nothing, prepares_nothing, commits_nothing, aborts_nothing, CaseTurn, rests, invites, accepts, sends_work, finds_nobody, asks_for_votes, gives_up, counts_vote, reads_only, commits, promises, hears_no, aborts, passes_commit, passes_abort, repeats_yes, asks, refuses, acknowledges, waits_for_acks, ends, clears, answers}
use Rattle.proof_processes.proofs.Cases.{viewed}
use Rattle.proof_processes.proofs.Phases.{standing_at, Together, open_ends, open_asks, asked_ends, open_collects, Closed, ends_together, clears_together, commits_together, aborts_together, prepares_together}
use Rattle.proof_processes.proofs.CoordinatorPhases.{then_remembers, stands, active_accepted, collecting_accepted, collecting_votes, commit_phase, abort_phase, prepare_left, abort_left, commit_left, uncounted, vote_phase, ack_left, joined_left, inquiry_left, join_left, ask_left, forget_left, work_left}
use Rattle.proof_processes.proofs.Remembering.{coordinator_place}
use Rattle.proof_processes.proofs.Reported.{reported_end}
use Rattle.protocol.specs.declared.messages.Finding.{Finding}

over_closed : (Over ≡ Open → ⊥) × (Over ≡ Asked → ⊥)
over_closed = (λ e. cc, λ e. cc)

last_vote : (w : Vote) → Consents w → (b : Bool) → phase_after w b ≡ (if b then Over else Asked)
last_vote _ votes_yes b = refl
last_vote _ votes_read b = refl

module _ (me : ProcessId) (parent : Option ProcessId) (tree : List TreeProcess) (n : Node) (h : Heard) where
  abbrev place : Place
  place = coordinator_place me parent tree

  -- The row's own case.

  module _ (c : Case) (old : Together (kept n) c (memory_of (coordinator_place me parent tree) n c).phase)
      (unrecorded : c.txn.presumption ≡ PresumeAbort → has (is_collecting c) (kept n) ≡ false)
      (top : ((coordinator_view (coordinator_place me parent tree) n c).standing ≡ Unknown → ⊥) → (x : Txn)
      → c ≡ root_case x → parent ≡ None)
    where
      abbrev m : Memory
      m = memory_of (coordinator_place me parent tree) n c

      abbrev now : Phase
      now = (then_remembers me parent tree n h c).phase

      abbrev v : CoordinatorView
      v = coordinator_view (coordinator_place me parent tree) n c

      abbrev After : Row → Type 0
      After row = Together (kept n ++ entries_written row.written) c now

      moved : (ph : Phase) → now ≡ ph → Together (kept n) c ph → Together (kept n ++ []) c now
      moved ph e t =
          subst (λ (rs : List Record). Together rs c now) (sym (append-nil (kept n)))
          (subst (Together (kept n) c) (sym e) t)

      left : now ≡ m.phase → Together (kept n ++ []) c now
      left e = moved m.phase e old

      wrote : (r : Record) (ph : Phase) → now ≡ ph → Together (kept n ++ r ∷ []) c ph
          → Together (kept n ++ r ∷ []) c now
      wrote r ph e t = subst (Together (kept n ++ r ∷ []) c) (sym e) t

      stands_as : (s : Standing) → v.standing ≡ s → standing_at (kept n) c m.phase ≡ s
      stands_as s e = stands me parent tree n h c s e

      was_open : v.standing ≡ Active → m.phase ≡ Open
      was_open e =
          phase_active c.txn.presumption m.phase
          (active_facts (has (is_end c) (kept n)) (has (is_commit c) (kept n)) (has (is_abort c) (kept n))
          (has (is_prepare c) (kept n)) (has (is_collecting c) (kept n)) (none_of (owing_by c (kept n)))
          (phase_standing c.txn.presumption m.phase) (stands_as Active e)).heard

      was_asked : v.standing ≡ Collecting → m.phase ≡ Asked
      was_asked e = old.collecting_is_asked (stands_as Collecting e)

      at_open : v.standing ≡ Active → Together (kept n) c Open
      at_open e = subst (Together (kept n) c) (was_open e) old

      at_asked : v.standing ≡ Collecting → Together (kept n) c Asked
      at_asked e = subst (Together (kept n) c) (was_asked e) old

      awake : (ph : Phase) → m.phase ≡ ph → (ph ≡ Idle → ⊥) → m.phase ≡ Idle → ⊥
      awake ph e f g = f (sym e ∙ g)

      known_at : (s : Standing) → v.standing ≡ s → (s ≡ Unknown → ⊥) → v.standing ≡ Unknown → ⊥
      known_at s e f g = f (sym e ∙ g)

      asks_phase : IsToCommit parent h c → v.standing ≡ Active → (b : Bool) → none_of v.accepted ≡ b
          → now ≡ (if b then Over else Asked)
      asks_phase i e b f =
          commit_phase me parent tree n h c (top (known_at Active e (λ u. cc))) i (was_open e)
          ∙ ap (λ (x : Bool). if x then Over else Asked)
          (ap none_of (sym (active_accepted me parent tree n h c e)) ∙ f)

      all_in : (t : Ticket) (w : Vote) → v.standing ≡ Collecting → (b : Bool)
          → all_voted v.accepted (voted v t w).votes ≡ b
          → all_voted m.accepted (m.votes ++ (t, w) ∷ []) ≡ b
      all_in t w e b f =
          ap (λ ts. all_voted ts (m.votes ++ (t, w) ∷ [])) (sym (collecting_accepted me parent tree n h c e))
          ∙ (ap (λ vs. all_voted v.accepted (vs ++ (t, w) ∷ []))
          (sym (collecting_votes me parent tree n h c e)) ∙ f)

      pub counts_phase : (t : Ticket) (w : Vote) → CountsVote place n h c t w → Consents w → (b : Bool)
          → all_voted v.accepted (voted v t w).votes ≡ b → now ≡ (if b then Over else Asked)
      counts_phase t w i k b f =
          vote_phase me parent tree n h c t w i (was_asked i.stands)
          ∙ (ap (phase_after w) (all_in t w i.stands b f) ∙ last_vote w k b)

      no_phase : (t : Ticket) → CountsVote place n h c t VoteNo → now ≡ Over
      no_phase t i = vote_phase me parent tree n h c t VoteNo i (was_asked i.stands)

      aborts_phase : (v.standing ≡ Unknown → ⊥) → (why : Reason) → IsToAbort parent h c why → (ph : Phase)
          → m.phase ≡ ph → (ph ≡ Idle → ⊥) → now ≡ Over
      aborts_phase known why i ph e f = abort_phase me parent tree n h c (top known) why i (awake ph e f)

      -- a case that stands so is neither open nor asked for votes
      closed_at : (s : Standing) → v.standing ≡ s → (s ≡ Active → ⊥) → (s ≡ Collecting → ⊥)
          → Closed (kept n) c m.phase
      closed_at s e f g = (
        λ o. f (sym (stands_as s e) ∙ old.open_is_active o),
        λ o. g (sym (stands_as s e) ∙ old.asked_is_collecting o),
      )

      decided_closed : (o : Outcome) (s : Standing) → HasDecided o s → v.standing ≡ s
          → Closed (kept n) c m.phase
      decided_closed _ _ by_commit e = closed_at Committing e (λ f. cc) (λ f. cc)
      decided_closed _ _ by_abort e = closed_at Aborting e (λ f. cc) (λ f. cc)

      refuses_closed : (s : Standing) → PromisesNoMore s → v.standing ≡ s → Closed (kept n) c m.phase
      refuses_closed _ unknown_refuses e = closed_at Unknown e (λ f. cc) (λ f. cc)
      refuses_closed _ aborting_refuses e = closed_at Aborting e (λ f. cc) (λ f. cc)

      commit_comes : HearsParent parent h (Commit c) → now ≡ m.phase
      commit_comes i = commit_left me parent tree n h c i.hears.0 i.hears.1

      prepare_comes_late : (k : ℕ) → HearsParent parent h (Prepare c k) → (m.phase ≡ Open → ⊥) → now ≡ m.phase
      prepare_comes_late k i f = prepare_left me parent tree n h c i.from i.is_parent i.hears.0 k i.hears.1 f

      abort_comes_late : HearsParent parent h (Abort c) → Closed (kept n) c m.phase → now ≡ m.phase
      abort_comes_late i f = abort_left me parent tree n h c i.from i.is_parent i.hears.0 i.hears.1 f.0 f.1

      acknowledged_left : (x : Version) (o : Outcome) (q : Presumption) (s : Standing) (fs : List Finding)
          → v.standing ≡ s → Acknowledges x c o q s fs
          → HearsParent parent h (tells_outcome o c) → now ≡ m.phase
      acknowledged_left _ _ _ _ _ e (commit_presumed_abort x _) i = commit_comes i
      acknowledged_left _ _ _ _ _ e (commit_again _ q) i = commit_comes i
      acknowledged_left _ _ _ _ _ e (abort_presumed_commit x _) i =
          abort_comes_late i (closed_at Unknown e (λ f. cc) (λ f. cc))
      acknowledged_left _ _ _ _ _ e (abort_again _ q) i =
          abort_comes_late i (closed_at Aborting e (λ f. cc) (λ f. cc))

      rested : RestsBy place parent n h c → Together (kept n ++ []) c now
      rested (invited_already q i) = left (join_left me parent tree n h c c q i)
      rested (takes_nobody t i f) = left (joined_left me parent tree n h c c t i.0 i.1)
      rested (counts_nothing t w i f) =
          left (uncounted me parent tree n h c t w i.txn i.hears.0 i.hears.1
          (λ e. still_uncounted (old.asked_is_collecting e)))
        where
          still_uncounted : standing_at (kept n) c m.phase ≡ Collecting → is_counted m.accepted m.votes t
              ≡ false
          still_uncounted s =
              let e : v.standing ≡ Collecting = viewed place n c ∙ s in
              ap (λ ts. is_counted ts m.votes t) (sym (collecting_accepted me parent tree n h c e))
              ∙ (ap (λ vs. is_counted v.accepted vs t) (sym (collecting_votes me parent tree n h c e)) ∙ f e)
      rested (owes_nothing t o fs i f) = left (ack_left me parent tree n h c t o fs i.txn i.hears.0 i.hears.1)
      rested (knows_nothing t i) = left (inquiry_left me parent tree n h c t i.txn i.hears.0 i.hears.1)
      rested (prepares_nothing k i f) =
          left (prepare_comes_late k i (λ o. absurd (f (viewed place n c ∙ old.open_is_active o))))
      rested (commits_nothing i) = left (commit_comes i)
      rested (aborts_nothing i f g) =
          left (abort_comes_late i (
            λ o. absurd (f (viewed place n c ∙ old.open_is_active o)),
            λ o. absurd (g (viewed place n c ∙ old.asked_is_collecting o)),
          ))

      pub own_together : (row : Row) → CaseTurn (coordinator_place me parent tree) parent n h c row
          → After row
      own_together _ (rests r) = rested r
      own_together _ (invites q i e f g) = left (join_left me parent tree n h c c q i)
      own_together _ (accepts t i e f) = left (joined_left me parent tree n h c c t i.0 i.1)
      own_together _ (sends_work q t op i e f g) = left (work_left me parent tree n h c c q op i)
      own_together _ (finds_nobody i e f) =
          moved Over (asks_phase i e true f) (open_ends (kept n) c (at_open e))
      own_together _ (asks_for_votes PresumeAbort i e f g) =
          moved Asked (asks_phase i e false f) (open_asks (kept n) c g (at_open e))
      own_together _ (asks_for_votes PresumeCommit i e f g) =
          wrote (CollectingRecord c v.accepted) Asked (asks_phase i e false f)
          (open_collects (kept n) c v.accepted (at_open e))
      own_together _ (gives_up why p i e f) =
          moved Over (aborts_phase (known_at Active e (λ k. cc)) why i Open (was_open e) (λ g. cc))
          (open_ends (kept n) c (at_open e))
      own_together _ (counts_vote t w i f e) =
          moved Asked (counts_phase t w i f false e) (at_asked i.stands)
      own_together _ (reads_only t w ys PresumeAbort i e f) =
          moved Over (counts_phase t w i.vote i.consents true i.all)
          (asked_ends (kept n) c f (unrecorded f) (at_asked i.vote.stands))
      own_together _ (reads_only t w ys PresumeCommit i e f) =
          wrote (EndRecord c None) Over (counts_phase t w i.vote i.consents true i.all)
          (ends_together (kept n) c None Over over_closed)
      own_together _ (commits t w ys PresumeAbort i e f g) =
          wrote (CommitRecord c ys) Over (counts_phase t w i.vote i.consents true i.all)
          (commits_together (kept n) c ys Over over_closed)
      own_together _ (commits t w ys PresumeCommit i e f g) =
          wrote (CommitRecord c []) Over (counts_phase t w i.vote i.consents true i.all)
          (commits_together (kept n) c [] Over over_closed)
      own_together _ (promises t w ys p i e f) =
          wrote (PrepareRecord c ys) Over (counts_phase t w i.vote i.consents true i.all)
          (prepares_together (kept n) c ys Over over_closed)
      own_together _ (hears_no t us PresumeAbort i e f) =
          wrote (AbortRecord c []) Over (no_phase t i) (aborts_together (kept n) c [] Over over_closed)
      own_together _ (hears_no t us PresumeCommit i e f) =
          wrote (AbortRecord c us) Over (no_phase t i) (aborts_together (kept n) c us Over over_closed)
      own_together _ (aborts why us PresumeAbort i e f g) =
          wrote (AbortRecord c []) Over (aborts_phase (known_at Collecting e (λ k. cc)) why i Asked
          (was_asked e) (λ k. cc))
          (aborts_together (kept n) c [] Over over_closed)
      own_together _ (aborts why us PresumeCommit i e f g) =
          wrote (AbortRecord c us) Over (aborts_phase (known_at Collecting e (λ k. cc)) why i Asked
          (was_asked e) (λ k. cc))
          (aborts_together (kept n) c us Over over_closed)
      own_together _ (passes_commit PresumeAbort i e f) =
          wrote (CommitRecord c v.promised) m.phase (commit_comes i)
          (commits_together (kept n) c v.promised m.phase (closed_at Prepared e (λ k. cc) (λ k. cc)))
      own_together _ (passes_commit PresumeCommit i e f) =
          wrote (CommitRecord c []) m.phase (commit_comes i)
          (commits_together (kept n) c [] m.phase (closed_at Prepared e (λ k. cc) (λ k. cc)))
      own_together _ (passes_abort PresumeAbort i e f) =
          let shut = closed_at Prepared e (λ k. cc) (λ k. cc) in
          wrote (AbortRecord c []) m.phase (abort_comes_late i shut)
          (aborts_together (kept n) c [] m.phase shut)
      own_together _ (passes_abort PresumeCommit i e f) =
          let shut = closed_at Prepared e (λ k. cc) (λ k. cc) in
          wrote (AbortRecord c v.promised) m.phase (abort_comes_late i shut)
          (aborts_together (kept n) c v.promised m.phase shut)
      own_together _ (repeats_yes j i e) =
          left (prepare_comes_late j i (closed_at Prepared e (λ k. cc) (λ k. cc)).0)
      own_together _ (asks i e) = left (ask_left me parent tree n h c c i)
      own_together _ (refuses j i e) = left (prepare_comes_late j i (refuses_closed v.standing e refl).0)
      own_together _ (acknowledges o fs i e) =
          left (acknowledged_left h.version o c.txn.presumption v.standing fs refl e i)
      own_together _ (waits_for_acks t o fs i e f g) =
          left (ack_left me parent tree n h c t o fs i.txn i.hears.0 i.hears.1)
      own_together _ (ends t o fs i e f g) =
          wrote (EndRecord c _) m.phase (ack_left me parent tree n h c t o fs i.txn i.hears.0 i.hears.1)
          (ends_together (kept n) c _ m.phase (decided_closed o v.standing e refl))
      own_together _ (clears i e f g) =
          wrote (ClearedRecord c) m.phase (forget_left me parent tree n h c c i)
          (clears_together (kept n) c (reported_end (kept n) c g) m.phase
          (closed_at Unknown e (λ k. cc) (λ k. cc)))
      own_together _ (answers t o i e) = left (inquiry_left me parent tree n h c t i.txn i.hears.0 i.hears.1)
