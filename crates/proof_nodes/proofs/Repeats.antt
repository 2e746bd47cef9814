-- What a node sends once more was sent before.
use Rattle.std.proofs.Common.{◌≡◌, ◌∙◌, ◌||◌, inl, inr, ℕ, zero, suc, Bool, true, false, Option, Some, None, List, [], ◌∷◌, ◌++◌, filter, find, map, take, refl, sym, ap, subst, append_assoc, cond, if◌then◌else◌}
use Rattle.std.specs.Prelude.{is_some}
use Rattle.std.proofs.lemmas.List.{append-nil}
use Rattle.protocol.specs.declared.messages.Envelope.{Envelope}
use Rattle.protocol.specs.declared.names.Case.{Case}
use Rattle.protocol.specs.declared.names.Kind.{Kind}
use Rattle.protocol.specs.declared.names.Kind.TheVariants.{Coordinator, Manager}
use Rattle.protocol.specs.declared.names.Outcome.{Outcome}
use Rattle.protocol_words.specs.Variants.{AbortRecord, AbortedOutcome, CommitRecord, CommittedOutcome}
use Rattle.protocol.specs.declared.names.Presumption.TheVariants.{PresumeAbort, PresumeCommit}
use Rattle.protocol.specs.declared.names.ProcessId.{ProcessId}
use Rattle.protocol.specs.declared.names.Ticket.{Ticket}
use Rattle.protocol.specs.declared.messages.Message.TheVariants.{Abort, Commit}
use Rattle.protocol.specs.declared.records.LogRecord.{LogRecord}
use Rattle.protocol.specs.declared.records.Record.{Record}
use Rattle.protocol.specs.declared.records.Record.TheVariants.{Opened}
use Rattle.protocol.specs.declared.standings.Standing.{Standing}
use Rattle.protocol.specs.declared.standings.Standing.TheVariants.{Unknown, Collecting, Prepared, Committing, Aborting}
use Rattle.protocol.specs.declared.trees.TreeProcess.{TreeProcess}
use Rattle.protocol.specs.CoordinatorRows.{Row, each}
use Rattle.protocol.specs.LogNames.{foreign_to, in_log, is_own, own_by, own_records, parent_of as parent_of_role}
use Rattle.protocol.specs.Memory.{memory_of}
use Rattle.protocol.specs.Names.{same_process}
use Rattle.protocol.specs.Nodes.{AtLeaf, AtRoot, Below, Effect, Heard, IsCoordinator, Node, Place, Role, entries_written, is_listed, kept, place_of, role_by, role_of}
use Rattle.protocol.specs.Reactions.{seat_of}
use Rattle.protocol.specs.Records.{boot_of, has, in_list, is_abort, is_collecting, is_commit, is_end, is_prepare, none_of, owing_by, record_case}
use Rattle.protocol.specs.Restarts.{recorded_view, reopens, resumes, staying, trim_fails, trimmed}
use Rattle.protocol.specs.Standings.{CoordinatorView, coordinator_view, phase_standing, standing_by}
use Rattle.protocol.specs.Trees.{IsTree, entry_parent, parent_of}
use Rattle.protocol.specs.World.{IsRun, Made, Move, World, makes, opens}
use Rattle.protocol.proofs.ListLaws.{kept-after}
use Rattle.protocol.proofs.LogNameLaws.{reads_back}
use Rattle.protocol.proofs.RunLaws.{makes_at}
use Rattle.proof_pairs.specs.turns.CoordinatorTurns.{CaseTurn, rests, invites, accepts, sends_work, finds_nobody, asks_for_votes, gives_up, counts_vote, reads_only, commits, promises, hears_no, aborts, passes_commit, passes_abort, repeats_yes, asks, refuses, acknowledges, waits_for_acks, ends, clears, answers, CoordinatorTurn, does_nothing, of_case, begins, gives_again, gives_fresh, presumes}
use Rattle.proof_pairs.specs.turns.Steps.{StepOf, heard_in, handled, failed_in, passed, failed_passing, reopened, failed_reopening, trims_log, failed_trimming}
use Rattle.proof_pairs.proofs.turns.CoordinatorReactions.{CoordinatorTurnAt, coordinator_turn_of}
use Rattle.proof_pairs.proofs.turns.Steps.{step_of, turn_of}
use Rattle.proof_processes.proofs.Cases.{viewed}
use Rattle.proof_pairs.specs.turns.Written.{is_coordinators}
use Rattle.proof_processes.specs.Lasts.{RoleLasts, logs_of}
use Rattle.proof_processes.proofs.Tests.{either, has-append, left, right}
use Rattle.proof_processes.proofs.Worlds.{all_last, has_other, put}
use Rattle.log_records.specs.Sights.{records_of}
use Rattle.coord_records.specs.Readings.{place_below, role_below}
use Rattle.process_state.specs.States.{CoreState}
use Rattle.tree_state.specs.Worlds.{WorldState}
use Rattle.proof_runs.specs.worlds.Follows.{FollowsBehindFaults}
use Rattle.proof_runs.proofs.worlds.Kept.{keeps_own}
use Rattle.node_engine.specs.Again.{decided_by, still_owing, telling, tellings_by, tellings_for}
use Rattle.node_engine.specs.Answers.{owed_at}
use Rattle.proof_log_order.specs.Orders.{log_of}
use Rattle.proof_nodes.specs.Nodes.{RepeatsWereSent, WereSent}
use Rattle.proof_nodes.proofs.Finding.{logged_are}
use Rattle.proof_nodes.proofs.Sending.{AreAmong, IsUndecided, Sent, all_more, at_end, behind_opened, commit_sent, abort_sent, end_sent, quiet_sent, resent_was_sent, restart_sends, sent_more, some_are, stands_in, staying_sent}

-- Rows.

-- nothing ended or decided a case that stands so
undecided_by : (E C A K P N : Bool) (heard s : Standing) → standing_by E C A K P N heard ≡ s
    → (Unknown ≡ s → ⊥)
    → (Committing ≡ s → ⊥) → (Aborting ≡ s → ⊥) → (E ≡ false) × (C ≡ false) × (A ≡ false)
undecided_by true C A K P N heard s e u c a = absurd (u e)
undecided_by false true A K P true heard s e u c a = absurd (u e)
undecided_by false true A K P false heard s e u c a = absurd (c e)
undecided_by false false true K P true heard s e u c a = absurd (u e)
undecided_by false false true K P false heard s e u c a = absurd (a e)
undecided_by false false false K P N heard s e u c a = (refl, refl, refl)

module _ (place : Place) (parent : Option ProcessId) (n : Node) (h : Heard) (c : Case) where
  undecided : (s : Standing) → (coordinator_view place n c).standing ≡ s → (Unknown ≡ s → ⊥)
      → (Committing ≡ s → ⊥)
      → (Aborting ≡ s → ⊥) → IsUndecided (kept n) c
  undecided s e u k a =
      let r = undecided_by (has (is_end c) (kept n)) (has (is_commit c) (kept n)) (has (is_abort c) (kept n))
      (has (is_prepare c) (kept n)) (has (is_collecting c) (kept n)) (none_of (owing_by c (kept n)))
      (phase_standing c.txn.presumption (memory_of place n c).phase) s (sym (viewed place n c) ∙ e) u k a in
      record { ended = r.0; committed = r.1; aborted = r.2 }

  collects : (coordinator_view place n c).standing ≡ Collecting → IsUndecided (kept n) c
  collects e = undecided Collecting e (λ x. cc) (λ x. cc) (λ x. cc)

  promised : (coordinator_view place n c).standing ≡ Prepared → IsUndecided (kept n) c
  promised e = undecided Prepared e (λ x. cc) (λ x. cc) (λ x. cc)

  module _ (net : List Envelope) (before : (d : Case) → Sent net place.me (kept n) d) (d : Case) where
    -- this was sent of a case, with these messages, once these records were appended
    abbrev Then : List Envelope → List Record → Type 0
    Then es rs = Sent (net ++ es) place.me (kept n ++ rs) d

    still : (es : List Envelope) → Then es []
    still es = subst (λ (rs : List Record). Sent (net ++ es) place.me rs d) (sym (append-nil (kept n)))
        (sent_more net place.me es (kept n) d (before d))

    more : (es : List Envelope) → Sent (net ++ es) place.me (kept n) d
    more es = sent_more net place.me es (kept n) d (before d)

    -- what is told at the end of the messages is among them
    told : (o : Outcome) (front : List Envelope) (ts : List Ticket)
        → AreAmong (net ++ (front ++ map (telling place.me c o) ts)) (map (telling place.me c o) ts)
    told o front ts =
        subst (λ (es : List Envelope). AreAmong es (map (telling place.me c o) ts))
        (append_assoc net front (map (telling place.me c o) ts))
        (at_end (net ++ front) (map (telling place.me c o) ts))

    commit_told : (front : List Envelope) (ts : List Ticket) → IsUndecided (kept n) c
        → Then (front ++ each (seat_of place parent c) Commit ts) (CommitRecord c ts ∷ [])
    commit_told front ts u = commit_sent (net ++ (front ++ each (seat_of place parent c) Commit ts))
        place.me (kept n) c ts u
        (told CommittedOutcome front ts) d (more (front ++ each (seat_of place parent c) Commit ts))

    abort_told : (front : List Envelope) (ts : List Ticket) → IsUndecided (kept n) c
        → Then (front ++ each (seat_of place parent c) Abort ts) (AbortRecord c ts ∷ [])
    abort_told front ts u = abort_sent (net ++ (front ++ each (seat_of place parent c) Abort ts))
        place.me (kept n) c ts u
        (told AbortedOutcome front ts) d (more (front ++ each (seat_of place parent c) Abort ts))

    commit_alone : (es : List Envelope) → IsUndecided (kept n) c → Then es (CommitRecord c [] ∷ [])
    commit_alone es u = commit_sent (net ++ es) place.me (kept n) c [] u tt d (more es)

    abort_alone : (es : List Envelope) → IsUndecided (kept n) c → Then es (AbortRecord c [] ∷ [])
    abort_alone es u = abort_sent (net ++ es) place.me (kept n) c [] u tt d (more es)

    turn_sent : (row : Row) → CaseTurn place parent n h c row
        → Then row.messages (entries_written row.written)
    turn_sent _ (asks_for_votes PresumeAbort i e f g) = still _
    turn_sent _ (asks_for_votes PresumeCommit i e f g) =
        quiet_sent _ place.me (kept n) _ d refl refl refl refl (more _)
    turn_sent _ (commits t w ys PresumeAbort i e f g) = commit_told [] ys (collects i.vote.stands)
    turn_sent _ (commits t w ys PresumeCommit i e f g) = commit_alone _ (collects i.vote.stands)
    turn_sent _ (promises t w ys p i e f) =
        quiet_sent _ place.me (kept n) _ d refl refl refl refl (more _)
    turn_sent _ (hears_no t us PresumeAbort i e f) = abort_alone _ (collects i.stands)
    turn_sent _ (hears_no t us PresumeCommit i e f) = abort_told _ us (collects i.stands)
    turn_sent _ (aborts why us PresumeAbort i e f g) = abort_alone _ (collects e)
    turn_sent _ (aborts why us PresumeCommit i e f g) = abort_told _ us (collects e)
    turn_sent _ (passes_commit PresumeAbort i e f) = commit_told _ _ (promised e)
    turn_sent _ (passes_commit PresumeCommit i e f) = commit_alone _ (promised e)
    turn_sent _ (passes_abort PresumeAbort i e f) = abort_alone _ (promised e)
    turn_sent _ (passes_abort PresumeCommit i e f) = abort_told _ _ (promised e)
    turn_sent _ (reads_only t w ys PresumeAbort i e f) = still _
    turn_sent _ (reads_only t w ys PresumeCommit i e f) =
        end_sent _ place.me (kept n) c None d (more _)
    turn_sent _ (ends t o fs i e f g) =
        end_sent _ place.me (kept n) c _ d (more _)
    turn_sent _ (clears i e f g) =
        quiet_sent _ place.me (kept n) _ d refl refl refl refl (more _)
    turn_sent _ (rests r) = still _
    turn_sent _ (invites q i e f g) = still _
    turn_sent _ (accepts t i e f) = still _
    turn_sent _ (sends_work q t op i e f g) = still _
    turn_sent _ (finds_nobody i e f) = still _
    turn_sent _ (gives_up why p i e f) = still _
    turn_sent _ (counts_vote t w i f e) = still _
    turn_sent _ (repeats_yes j i e) = still _
    turn_sent _ (asks i e) = still _
    turn_sent _ (refuses j i e) = still _
    turn_sent _ (acknowledges o fs i e) = still _
    turn_sent _ (waits_for_acks t o fs i e f g) = still _
    turn_sent _ (answers t o i e) = still _

module _ (place : Place) (parent : Option ProcessId) (n : Node) (h : Heard) (net : List Envelope)
    (before : (d : Case) → Sent net place.me (kept n) d) (d : Case) where
  none_written : (es : List Envelope) → Sent (net ++ es) place.me (kept n ++ []) d
  none_written es = subst (λ (rs : List Record). Sent (net ++ es) place.me rs d) (sym (append-nil (kept n)))
      (sent_more net place.me es (kept n) d (before d))

  effect_sent : (e : Effect) → CoordinatorTurn place parent n h e
      → Sent (net ++ e.messages) place.me (kept n ++ entries_written e.written) d
  effect_sent _ (of_case c row t) = turn_sent place parent n h c net before d row t
  effect_sent _ (does_nothing i) = none_written _
  effect_sent _ (begins p f i) = none_written _
  effect_sent _ (gives_again p x t f i g) = none_written _
  effect_sent _ (gives_fresh p x f i g) = none_written _
  effect_sent _ (presumes x t i f) = none_written _

effect_at : (role : Role) → IsCoordinator role → (place : Place) (n : Node) (h : Heard) (e : Effect)
    → CoordinatorTurnAt role place n h e → (net : List Envelope) → ((d : Case) → Sent net place.me (kept n) d)
    → (d : Case) → Sent (net ++ e.messages) place.me (kept n ++ entries_written e.written) d
effect_at AtRoot i place n h e t net before d = effect_sent place None n h net before d e t
effect_at (Below p) i place n h e t net before d = effect_sent place (Some p) n h net before d e t
effect_at (AtLeaf p) i place n h e t net before d = absurd i

-- Restarts and trims.

restart_at : (role : Role) → IsCoordinator role → (me : ProcessId) (net : List Envelope) (rs : List Record)
    (d : Case)
    → Sent (net ++ resumes role me rs) me rs d
restart_at AtRoot i me net rs d = restart_sends net me None rs d
restart_at (Below p) i me net rs d = restart_sends net me (Some p) rs d
restart_at (AtLeaf p) i me net rs d = absurd i

trim_at : (role : Role) → IsCoordinator role → (net : List Envelope) (me : ProcessId) (rs : List Record)
    (d : Case)
    → Sent net me rs d → Sent net me (trimmed role rs) d
unfolding trimmed
trim_at AtRoot i net me rs d h = subst (λ (xs : List Record). Sent net me xs d)
    (sym (append-nil (Opened (boot_of rs) ∷ staying AtRoot rs rs)))
    (behind_opened AtRoot i rs d net me (boot_of rs) (staying AtRoot rs rs)
    (staying_sent AtRoot i rs d net me h))
trim_at (Below p) i net me rs d h = subst (λ (xs : List Record). Sent net me xs d)
    (sym (append-nil (Opened (boot_of rs) ∷ staying (Below p) rs rs)))
    (behind_opened (Below p) i rs d net me (boot_of rs) (staying (Below p) rs rs)
    (staying_sent (Below p) i rs d net me h))
trim_at (AtLeaf p) i net me rs d h = absurd i

-- Steps.

failed_is_not : {A : Type 0} → true ≡ false → A
failed_is_not e = absurd (cc)

module _ (place : Place) (i : IsCoordinator place.role) (n : Node) (net : List Envelope)
    (before : n.failed ≡ false → (d : Case) → Sent net place.me (kept n) d) where
  step_sent : (m : Move) (e : Effect) (k : Node) → StepOf place n m e k → k.failed ≡ false → (d : Case)
      → Sent (net ++ e.messages) place.me (kept k) d
  step_sent m _ _ (handled input g hp np r) up d =
      subst (λ (rs : List Record). Sent (net ++ g.messages) place.me rs d)
      (sym (kept-after n (heard_in m input) g))
      (effect_at place.role i place n (heard_in m input) g
      (coordinator_turn_of place n (heard_in m input) g r) net
      (before (turn_of place n (heard_in m input) g r).up) d)
  step_sent m _ _ (failed_in input f g fl hp np r) up d = failed_is_not up
  step_sent m _ _ (passed input hp r) up d =
      subst (λ (es : List Envelope). Sent es place.me (kept n) d) (sym (append-nil net)) (before up d)
  step_sent m _ _ (failed_passing input f fl hp r) up d = failed_is_not up
  step_sent m _ _ (reopened j hp) up d =
      let rs = n.forced ++ take j n.unforced in
      let all = rs ++ reopens place.role rs in
      subst (λ (xs : List Record). Sent (net ++ resumes place.role place.me all) place.me xs d)
      (sym (append-nil all))
      (restart_at place.role i place.me net all d)
  step_sent m _ _ (failed_reopening j f fl hp) up d = failed_is_not up
  step_sent m _ _ (trims_log hp ok) up d =
      let new = trimmed place.role (kept n) in
      subst (λ (es : List Envelope). Sent es place.me (new ++ []) d) (sym (append-nil net))
      (subst (λ (xs : List Record). Sent net place.me xs d) (sym (append-nil new))
      (trim_at place.role i net place.me (kept n) d (before ok d)))
  step_sent m _ _ (failed_trimming f fl hp ok) up d = fails_so f.appended up
    where
      fails_so : {A : Type 0} (a : ℕ) → (trim_fails place n a).failed ≡ false → A
      fails_so zero u = failed_is_not u
      fails_so (suc a) u = failed_is_not u

world_sent : (tree : List TreeProcess) (es : List Made) (w : World) → IsRun tree es w → (p : ProcessId)
    → IsCoordinator (role_of tree p) → (w.at p).failed ≡ false → (d : Case) → Sent w.net p (kept (w.at p)) d
unfolding has
world_sent tree _ _ opens p i up d = record { committed = λ e k. absurd (cc); aborted = λ e k a. absurd (cc) }
world_sent tree _ _ (makes es w m e w' run stands step) p i up d =
    let at = makes_at tree w m e w' step in
    let q = m.step.process in
    let s = step_of (place_of tree q) (w.at q) m e at.node at.made in
    let P : ProcessId → Node → Type 0 =
    λ x k. IsCoordinator (role_of tree x) → k.failed ≡ false → Sent (w.net ++ e.messages) x (kept k) d in
    subst (λ (x : World). (x.at p).failed ≡ false → Sent x.net p (kept (x.at p)) d) (sym at.world)
    (put P q p at.node w.at
    (λ c ok. step_sent (place_of tree q) c (w.at q) w.net (λ u x. world_sent tree es w run q c u x) m
    e at.node s ok d)
    (λ c ok. sent_more w.net p e.messages (kept (w.at p)) d (world_sent tree es w run p c ok d)) i) up

-- Managers.

-- a manager has no record of a decision of its own
pub no_decision : (tree : List TreeProcess) (es : List Made) (w : World) → IsRun tree es w → (q p : ProcessId)
    → role_of tree q ≡ AtLeaf p → (t : Record → Bool) → ((k : ℕ) → t (Opened k) ≡ false)
    → ((r : Record) → t r ≡ true → is_coordinators r ≡ true) → has t (kept (w.at q)) ≡ true → ⊥
no_decision tree es w run q p e t none is there =
    let lasts = all_last tree es w run q in
    let manages = subst (λ (r : Role). RoleLasts r (logs_of (w.at q))) e lasts.by_role in
    let written = lasts.nested.kept_was_written t none there in
    let clash : true ≡ false = sym (has_other t is_coordinators (w.at q).life is written)
    ∙ manages.no_coordinators_record in
    absurd (cc)

commit_is_coordinators : (c : Case) (r : Record) → is_commit c r ≡ true → is_coordinators r ≡ true
commit_is_coordinators c (CommitRecord d ts) e = refl
commit_is_coordinators c r e = absurd (cc)

abort_is_coordinators : (c : Case) (r : Record) → is_abort c r ≡ true → is_coordinators r ≡ true
abort_is_coordinators c (AbortRecord d ts) e = refl
abort_is_coordinators c r e = absurd (cc)

-- what a coordinator would read there is there
module _ (place : Place) (coordinator : IsCoordinator place.role) (t : Record → Bool) where
  one_read : (l : LogRecord) (o : Option Case) → has t (own_by place l o) ≡ true → t l.entry ≡ true
  unfolding has
  one_read l None h = alone (t l.entry) h
    where
      alone : (b : Bool) → (b || false) ≡ true → b ≡ true
      alone true e = refl
      alone false e = e
  one_read l (Some c) h = by_own (is_own place l.parent c) place.role coordinator h
    where
      alone : (b : Bool) → (b || false) ≡ true → b ≡ true
      alone true e = refl
      alone false e = e

      by_own : (b : Bool) (r : Role) → IsCoordinator r
          → has t (if b then l.entry ∷ [] else foreign_to r l.parent c l.entry) ≡ true → t l.entry ≡ true
      by_own true r i e = alone (t l.entry) e
      by_own false AtRoot i e = absurd (cc)
      by_own false (Below p) i e = absurd (cc)
      by_own false (AtLeaf p) i e = absurd i

  all_read : (p : Option ProcessId) (rs : List Record) → has t (own_records place (map (in_log p) rs)) ≡ true
      → has t rs ≡ true
  unfolding own_records has
  all_read p [] h = absurd (cc)
  all_read p (r ∷ rs) h =
      let l = in_log p r in
      elim (either (has t (own_by place l (record_case r))) (has t (own_records place (map (in_log p) rs)))
      (sym (has-append t (own_by place l (record_case r)) (own_records place (map (in_log p) rs))) ∙ h)) [
        | inl now ↦ left (t r) (has t rs) (one_read l (record_case r) now)
        | inr rest ↦ right (t r) (has t rs) (all_read p rs rest)
      ]

-- Nodes.

seat_by : (k : Kind) (o : Option ProcessId) → IsCoordinator (role_by k o) → role_below o ≡ role_by k o
seat_by Coordinator None i = refl
seat_by Coordinator (Some p) i = refl
seat_by Manager None i = refl
seat_by Manager (Some p) i = absurd i

-- a coordinator sits where its parent says
seat_is : (tree : List TreeProcess) (q : ProcessId) → IsCoordinator (role_of tree q)
    → role_below (parent_of tree q) ≡ role_of tree q
unfolding role_of parent_of
seat_is [] q i = refl
seat_is (x ∷ xs) q i = by_test (same_process x.id q) (seat_is xs q) i
  where
    by_test : (b : Bool)
        → (IsCoordinator (role_of xs q) → role_below
        (entry_parent (find (λ y. same_process y.id q) xs)) ≡ role_of xs q)
        → IsCoordinator (if b then role_by x.kind x.parent else role_of xs q)
        → role_below (entry_parent (cond b (Some x) (find (λ y. same_process y.id q) xs)))
        ≡ (if b then role_by x.kind x.parent else role_of xs q)
    by_test true behind g = seat_by x.kind x.parent g
    by_test false behind g = behind g

below_coordinates : (o : Option ProcessId) → IsCoordinator (role_below o)
below_coordinates None = tt
below_coordinates (Some p) = tt

module _ (s : WorldState) (es : List Made) (w : World) (is_tree : IsTree s.tree)
    (f : FollowsBehindFaults es w s)
    (q : ProcessId) (c : CoreState) (there : s.node_at q ≡ Some c) (works : c.log.failed ≡ false) where
  up : (w.at q).failed ≡ false
  up = sym (f.follows.nodes q c there).stands.failed ∙ works

  listed : is_listed s.tree q ≡ true
  listed = sym (f.follows.listed q) ∙ ap is_some there

  logged : records_of c.log.kept ≡ log_of s.tree w q
  logged =
      let h = f.follows.nodes q c there in logged_are s w q c (record { place = h.place; stands = h.stands })

  abbrev place : Place
  place = place_below q (parent_of s.tree q) s.tree

  coordinator_sent : IsCoordinator (role_of s.tree q) → (d : Case)
      → Sent w.net q (own_records place (records_of c.log.kept)) d
  coordinator_sent i d =
      let is : own_records place (records_of c.log.kept) ≡ kept (w.at q) =
      ap (λ (r : Role). own_records (record { me = q; role = r; tree = s.tree }) (records_of c.log.kept))
      (seat_is s.tree q i)
      ∙ ap (own_records (place_of s.tree q)) logged
      ∙ reads_back (place_of s.tree q) (kept (w.at q))
      (keeps_own s.tree es w is_tree f.follows.is_run q listed) in
      subst (λ (rs : List Record). Sent w.net q rs d) (sym is)
      (world_sent s.tree es w f.follows.is_run q i up d)

  manager_sent : (p : ProcessId) → role_of s.tree q ≡ AtLeaf p → (d : Case)
      → Sent w.net q (own_records place (records_of c.log.kept)) d
  manager_sent p e d =
      let read = λ (t : Record → Bool) (h : has t (own_records place (records_of c.log.kept)) ≡ true).
      all_read place (below_coordinates (parent_of s.tree q)) t
      (parent_of_role (role_of s.tree q)) (kept (w.at q))
      (sym (ap (λ (ls : List LogRecord). has t (own_records place ls)) logged) ∙ h) in
      record {
        committed = λ n k. absurd (no_decision s.tree es w f.follows.is_run q p e (is_commit d) (λ j. refl)
            (commit_is_coordinators d) (read (is_commit d) k));
        aborted = λ n k a. absurd (no_decision s.tree es w f.follows.is_run q p e (is_abort d) (λ j. refl)
            (abort_is_coordinators d) (read (is_abort d) a));
      }

  by_role : (r : Role) → role_of s.tree q ≡ r → (d : Case)
      → Sent w.net q (own_records place (records_of c.log.kept)) d
  by_role AtRoot e d = coordinator_sent (subst IsCoordinator (sym e) tt) d
  by_role (Below p) e d = coordinator_sent (subst IsCoordinator (sym e) tt) d
  by_role (AtLeaf p) e d = manager_sent p e d

-- Those who owe an acknowledgement still.

filtered_among : (net : List Envelope) (f : Ticket → Envelope) (p : Ticket → Bool) (ts : List Ticket)
    → AreAmong net (map f ts) → AreAmong net (map f (filter p ts))
filtered_among net f p [] h = tt
filtered_among net f p (t ∷ ts) h = by_test (p t) (filtered_among net f p ts h.1)
  where
    by_test : (b : Bool) → AreAmong net (map f (filter p ts))
        → AreAmong net (map f (if b then t ∷ filter p ts else filter p ts))
    by_test true rest = (h.0, rest)
    by_test false rest = rest

module _ (me : ProcessId) (c : Case) (owed : List Ticket) (v : CoordinatorView) (net ms : List Envelope) where
  by_outcome : (o : Option Outcome) → ((es : List Envelope) → tellings_for me c v o ≡ Some es
      → AreAmong net es)
      → tellings_for me c (still_owing owed v) o ≡ Some ms → AreAmong net ms
  by_outcome None all e = absurd (cc)
  by_outcome (Some o) all e = subst (AreAmong net) (some_are _ _ e)
      (filtered_among net (telling me c o) (in_list owed) v.owed (all (map (telling me c o) v.owed) refl))

  -- what is sent to these was sent, if what is sent to all was
  still_sent : (s : Standing) → ((es : List Envelope) → tellings_by me c v s ≡ Some es → AreAmong net es)
      → tellings_by me c (still_owing owed v) s ≡ Some ms → AreAmong net ms
  still_sent s all e = by_outcome (decided_by s) all e

all_stand : (net ms : List Envelope) → AreAmong net ms → WereSent net ms
all_stand net [] h = tt
all_stand net (m ∷ ms) h = (stands_in m net h.0, all_stand net ms h.1)

pub repeats_were_sent : RepeatsWereSent
repeats_were_sent s es w is_tree f old sits works c ms e =
    let q = old.me in
    let sent = by_role s es w is_tree f q old.core sits.core works (role_of s.tree q) refl c in
    let is : owed_at (record old { tree = s.tree }) c ≡ Some ms =
    subst (λ (tree : List TreeProcess). owed_at (record old { tree = tree }) c ≡ Some ms) sits.tree e in
    subst (λ (net : List Envelope). WereSent net ms) (sym f.follows.net)
    (all_stand w.net ms (still_sent q c (old.core.view_of c).owed
    (recorded_view (own_records (place_below q (parent_of s.tree q) s.tree) (records_of old.core.log.kept)) c)
    w.net ms _
    (resent_was_sent q c w.net _ sent) is))
