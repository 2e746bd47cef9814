-- Each record of a coordinator's log fits what is before it, over every run.
use Rattle.std.proofs.Common.{◌≡◌, ◌∙◌, ◌+◌, ℕ, zero, suc, Bool, true, false, Option, Some, None, List, [], ◌∷◌, ◌++◌, take, drop, refl, sym, ap, subst, append_assoc, if◌then◌else◌}
use Rattle.std.specs.List.{flat_map}
use Rattle.std.proofs.lemmas.List.{append-nil, take-append-drop}
use Rattle.protocol.specs.declared.names.Case.{Case}
use Rattle.protocol.specs.declared.names.ProcessId.{ProcessId}
use Rattle.protocol.specs.declared.names.Ticket.{Ticket}
use Rattle.protocol.specs.declared.names.Presumption.TheVariants.{PresumeAbort, PresumeCommit}
use Rattle.protocol.specs.declared.records.Record.{Record}
use Rattle.protocol.specs.declared.records.Record.TheVariants.{Opened}
use Rattle.protocol_words.specs.Variants.{AbortRecord, CollectingRecord, CommitRecord, PrepareRecord}
use Rattle.protocol.specs.declared.standings.Standing.{Standing}
use Rattle.protocol.specs.declared.standings.Standing.TheVariants.{Unknown, Active, Collecting, Prepared, Committing, Aborting, Heuristic}
use Rattle.protocol.specs.declared.trees.TreeProcess.{TreeProcess}
use Rattle.protocol.specs.Names.{same_case}
use Rattle.protocol.specs.Records.{has, has_case, none_of, is_collecting, is_prepare, is_commit, is_abort, is_end, promised_by, owing_by, boot_of, cases_in}
use Rattle.protocol.specs.Nodes.{Role, AtRoot, Below, AtLeaf, Place, place_of, role_of, Node, kept, Heard, Effect, entries_written, is_any_forced, after, IsCoordinator}
use Rattle.protocol.specs.Memory.{Idle, memory_of}
use Rattle.protocol.specs.Standings.{CoordinatorView, coordinator_view, phase_standing, standing_by, view_at}
use Rattle.protocol.specs.CoordinatorRows.{Row}
use Rattle.protocol.specs.Reactions.{Does, reacts}
use Rattle.protocol.specs.Restarts.{recorded_view, restart_abort, aborts_collecting, coordinator_reopens, reopens, trim_fails, trimmed, staying, stays, data_records}
use Rattle.protocol.specs.World.{World, Move, Made, IsRun, opens, makes}
use Rattle.proof_model.proofs.StandingLaws.{phase_unprepared}
use Rattle.protocol.proofs.RunLaws.{makes_at}
use Rattle.proof_pairs.specs.turns.CoordinatorTurns.{CaseTurn, rests, invites, accepts, sends_work, finds_nobody, asks_for_votes, gives_up, counts_vote, reads_only, commits, promises, hears_no, aborts, passes_commit, passes_abort, repeats_yes, asks, refuses, acknowledges, waits_for_acks, ends, clears, answers, CoordinatorTurn, does_nothing, of_case, begins, gives_again, gives_fresh, presumes}
use Rattle.proof_pairs.specs.turns.Steps.{StepOf, heard_in, handled, failed_in, passed, failed_passing, reopened, failed_reopening, trims_log, failed_trimming}
use Rattle.proof_pairs.proofs.turns.Steps.{step_of}
use Rattle.proof_pairs.proofs.turns.CoordinatorReactions.{CoordinatorTurnAt, coordinator_turn_of}
use Rattle.proof_processes.specs.Lasts.{Logs, logs_of, standing}
use Rattle.proof_processes.specs.CaseOrder.{CaseInOrder}
use Rattle.proof_processes.proofs.LoggedCases.{AllNew, each_once, seen_more, seen_last}
use Rattle.proof_processes.proofs.Tests.{case_is, has-nil, has-cons, has-append, neither, first_false, second_false, in_none}
use Rattle.proof_processes.proofs.Appends.{loses, either_logs, breaks_keeps}
use Rattle.proof_processes.proofs.CaseOrders.{CommitNames, AbortNames, Undecided, Fits, AllFit, fit_front, fit_both, in_order, names, promise_names, collects_by_commit}
use Rattle.proof_processes.proofs.Cases.{viewed}
use Rattle.proof_processes.proofs.Phases.{standing_at, collecting_undecided, active_unrecorded}
use Rattle.proof_processes.proofs.RootLogs.{idle_standing, recorded_stands}
use Rattle.proof_processes.proofs.Worlds.{put}

-- What a row writes.

-- the records of a case that is Prepared
record PromisedFacts (E C A P : Bool) : Type 0 where
  no_end : E ≡ false
  no_commit : C ≡ false
  no_abort : A ≡ false
  promised : P ≡ true

promised_facts : (E C A P K N : Bool) (s : Standing) → (s ≡ Prepared → ⊥)
    → standing_by E C A P K N s ≡ Prepared
    → PromisedFacts E C A P
promised_facts true C A P K N s f e = absurd (cc)
promised_facts false true A P K true s f e = absurd (cc)
promised_facts false true A P K false s f e = absurd (cc)
promised_facts false false true P K true s f e = absurd (cc)
promised_facts false false true P K false s f e = absurd (cc)
promised_facts false false false true K N s f e =
    record { no_end = refl; no_commit = refl; no_abort = refl; promised = refl }
promised_facts false false false false true N s f e = absurd (cc)
promised_facts false false false false false N s f e = absurd (f e)

module _ (place : Place) (parent : Option ProcessId) (n : Node) (h : Heard) (c : Case) where
  abbrev v : CoordinatorView
  v = coordinator_view place n c

  at_collecting : (coordinator_view place n c).standing ≡ Collecting → Undecided (kept n) c
  at_collecting e =
      let u = collecting_undecided (kept n) c (memory_of place n c).phase (sym (viewed place n c) ∙ e) in
      record { no_end = u.no_end; no_commit = u.no_commit; no_abort = u.no_abort }

  at_prepared : (coordinator_view place n c).standing ≡ Prepared
      → PromisedFacts (has (is_end c) (kept n)) (has (is_commit c) (kept n)) (has (is_abort c) (kept n))
      (has (is_prepare c) (kept n))
  at_prepared e =
      let m = memory_of place n c in
      promised_facts (has (is_end c) (kept n)) (has (is_commit c) (kept n)) (has (is_abort c) (kept n))
      (has (is_prepare c) (kept n)) (has (is_collecting c) (kept n)) (none_of (owing_by c (kept n)))
      (phase_standing c.txn.presumption m.phase) (phase_unprepared c.txn.presumption m.phase)
      (sym (viewed place n c) ∙ e)

  promised_undecided : (coordinator_view place n c).standing ≡ Prepared → Undecided (kept n) c
  promised_undecided e =
      let f = at_prepared e in
      record { no_end = f.no_end; no_commit = f.no_commit; no_abort = f.no_abort }

  unpromised : (coordinator_view place n c).standing ≡ Collecting → has (is_prepare c) (kept n) ≡ false
  unpromised e =
      (collecting_undecided (kept n) c (memory_of place n c).phase (sym (viewed place n c) ∙ e)).no_prepare

  -- its view has whom the promise names
  promised_view : (coordinator_view place n c).standing ≡ Prepared
      → (coordinator_view place n c).promised ≡ promised_by c (kept n)
  unfolding coordinator_view
  promised_view e =
      ap (λ (s : Standing). (view_at s (kept n) c (memory_of place n c)).promised)
      (sym (viewed place n c) ∙ e)

  names_some : (ts : List Ticket) → c.txn.presumption ≡ PresumeAbort → none_of ts ≡ false
      → CommitNames c.txn.presumption ts
  names_some ts p e = subst (λ x. CommitNames x ts) (sym p) e

  commit_nobody : c.txn.presumption ≡ PresumeCommit → CommitNames c.txn.presumption []
  unfolding none_of
  commit_nobody p = subst (λ x. CommitNames x []) (sym p) refl

  abort_nobody : c.txn.presumption ≡ PresumeAbort → AbortNames c.txn.presumption []
  unfolding none_of
  abort_nobody p = subst (λ x. AbortNames x []) (sym p) refl

  abort_anybody : (ts : List Ticket) → c.txn.presumption ≡ PresumeCommit → AbortNames c.txn.presumption ts
  abort_anybody ts p = subst (λ x. AbortNames x ts) (sym p) tt

  fits_turn : AllFit [] (kept n) → (row : Row) → CaseTurn place parent n h c row
      → AllFit (kept n) (entries_written row.written)
  fits_turn a _ (asks_for_votes PresumeCommit i e f g) =
      let u = active_unrecorded (kept n) c (memory_of place n c).phase (sym (viewed place n c) ∙ e) in (
        (
          g,
          (
            record { no_end = u.no_end; no_commit = u.no_commit; no_abort = u.no_abort },
            (u.no_prepare, u.no_collecting),
          ),
        ),
        tt,
      )
  fits_turn a _ (commits t w ys PresumeAbort i e f g) = ((names_some ys g e, at_collecting i.vote.stands), tt)
  fits_turn a _ (commits t w ys PresumeCommit i e f g) = ((commit_nobody g, at_collecting i.vote.stands), tt)
  fits_turn a _ (promises t w ys p i e f) = ((e, (at_collecting i.vote.stands, unpromised i.vote.stands)), tt)
  fits_turn a _ (hears_no t us PresumeAbort i e f) = ((abort_nobody f, at_collecting i.stands), tt)
  fits_turn a _ (hears_no t us PresumeCommit i e f) = ((abort_anybody us f, at_collecting i.stands), tt)
  fits_turn a _ (aborts why us PresumeAbort i e f g) = ((abort_nobody g, at_collecting e), tt)
  fits_turn a _ (aborts why us PresumeCommit i e f g) = ((abort_anybody us g, at_collecting e), tt)
  fits_turn a _ (passes_commit PresumeAbort i e f) = (
    (
      names_some (coordinator_view place n c).promised f
          (ap none_of (promised_view e) ∙ promise_names c (kept n) a (at_prepared e).promised),
      promised_undecided e,
    ),
    tt,
  )
  fits_turn a _ (passes_commit PresumeCommit i e f) = ((commit_nobody f, promised_undecided e), tt)
  fits_turn a _ (passes_abort PresumeAbort i e f) = ((abort_nobody f, promised_undecided e), tt)
  fits_turn a _ (passes_abort PresumeCommit i e f) =
      ((abort_anybody (coordinator_view place n c).promised f, promised_undecided e), tt)
  fits_turn a _ (reads_only t w ys PresumeAbort i e f) = tt
  fits_turn a _ (reads_only t w ys PresumeCommit i e f) = (tt, tt)
  fits_turn a _ (ends t o fs i e f g) = (tt, tt)
  fits_turn a _ (rests r) = tt
  fits_turn a _ (invites q i e f g) = tt
  fits_turn a _ (accepts t i e f) = tt
  fits_turn a _ (sends_work q t op i e f g) = tt
  fits_turn a _ (finds_nobody i e f) = tt
  fits_turn a _ (asks_for_votes PresumeAbort i e f g) = tt
  fits_turn a _ (gives_up why p i e f) = tt
  fits_turn a _ (counts_vote t w i f e) = tt
  fits_turn a _ (repeats_yes j i e) = tt
  fits_turn a _ (asks i e) = tt
  fits_turn a _ (refuses j i e) = tt
  fits_turn a _ (acknowledges o fs i e) = tt
  fits_turn a _ (waits_for_acks t o fs i e f g) = tt
  fits_turn a _ (clears i e f g) = (tt, tt)
  fits_turn a _ (answers t o i e) = tt

pub fits_effect : (place : Place) (parent : Option ProcessId) (n : Node) (h : Heard) (e : Effect)
    → CoordinatorTurn place parent n h e → AllFit [] (kept n) → AllFit (kept n) (entries_written e.written)
fits_effect place parent n h _ (of_case c row t) a = fits_turn place parent n h c a row t
fits_effect place parent n h _ (does_nothing i) a = tt
fits_effect place parent n h _ (begins p e i) a = tt
fits_effect place parent n h _ (gives_again p d t e i f) a = tt
fits_effect place parent n h _ (gives_fresh p d e i f) a = tt
fits_effect place parent n h _ (presumes x t i e) a = tt

-- What a restart appends.

-- what is in neither is of the first alone, but for the Aborts that a restart appends for the cases seen
abbrev NoMore : List Record → List Case → List Record → Type 0
NoMore rs seen pre = (q : Record → Bool) → ((k : ℕ) → q (Opened k) ≡ false)
    → ((d : Case) (ts : List Ticket) → has_case seen d ≡ true → q (AbortRecord d ts) ≡ false)
    → has q rs ≡ false
    → has q pre ≡ false

one_none : (q : Record → Bool) (r : Record) → q r ≡ false → has q (r ∷ []) ≡ false
one_none q r e = has-cons q r [] ∙ neither (q r) (has q []) e (has-nil q)

module _ (rs : List Record) (whole : AllFit [] rs) where
  abort_once : (seen : List Case) (d : Case) → has_case seen d ≡ false → (b : Case) (ts : List Ticket)
      → has_case seen b ≡ true → is_abort d (AbortRecord b ts) ≡ false
  abort_once seen d new b ts e = by_test (same_case b d) refl
    where
      ends : true ≡ false → ⊥
      ends x = cc

      by_test : (x : Bool) → same_case b d ≡ x → same_case b d ≡ false
      by_test true f = absurd (ends (sym e ∙ (ap (has_case seen) (case_is b d f) ∙ new)))
      by_test false f = f

  fits_abort : (pre : List Record) (seen : List Case) → NoMore rs seen pre → (d : Case)
      → has_case seen d ≡ false → (s : Standing) → (recorded_view rs d).standing ≡ s
      → AllFit pre (restart_abort d (recorded_view rs d) s)
  fits_abort pre seen more d new Collecting e =
      let at : standing_at rs d Idle ≡ Collecting = sym (recorded_stands d rs) ∙ e in
      let u = collecting_undecided rs d Idle at in
      let p = collects_by_commit d rs whole (idle_standing d rs at) in (
        (
          subst (λ x. AbortNames x (recorded_view rs d).named) (sym p) tt,
          record {
            no_end = more (is_end d) (λ k. refl) (λ b ts x. refl) u.no_end;
            no_commit = more (is_commit d) (λ k. refl) (λ b ts x. refl) u.no_commit;
            no_abort = more (is_abort d) (λ k. refl) (abort_once seen d new) u.no_abort;
          },
        ),
        tt,
      )
  fits_abort pre seen more d new Unknown e = tt
  fits_abort pre seen more d new Active e = tt
  fits_abort pre seen more d new Prepared e = tt
  fits_abort pre seen more d new Committing e = tt
  fits_abort pre seen more d new Aborting e = tt
  fits_abort pre seen more d new Heuristic e = tt

  abort_none : (q : Record → Bool) (d : Case) → ((ts : List Ticket) → q (AbortRecord d ts) ≡ false)
      → (v : CoordinatorView) (s : Standing) → has q (restart_abort d v s) ≡ false
  abort_none q d f v Collecting = one_none q (AbortRecord d v.named) (f v.named)
  abort_none q d f v Unknown = has-nil q
  abort_none q d f v Active = has-nil q
  abort_none q d f v Prepared = has-nil q
  abort_none q d f v Committing = has-nil q
  abort_none q d f v Aborting = has-nil q
  abort_none q d f v Heuristic = has-nil q

  fits_aborts : (pre : List Record) (seen : List Case) → NoMore rs seen pre → (cs : List Case)
      → AllNew seen cs → AllFit pre (flat_map (aborts_collecting rs) cs)
  fits_aborts pre seen more [] new = tt
  fits_aborts pre seen more (d ∷ cs) new =
      let w = recorded_view rs d in
      fit_both pre (aborts_collecting rs d) (flat_map (aborts_collecting rs) cs)
      (fits_abort pre seen more d new.0 w.standing refl)
      (fits_aborts (pre ++ aborts_collecting rs d) (seen ++ d ∷ [])
      (λ q f g e. in_none q pre (aborts_collecting rs d)
      (more q f (λ b ts x. g b ts (seen_more seen d b x)) e)
      (abort_none q d (λ ts. g d ts (seen_last seen d)) w w.standing)) cs new.1)

  fits_reopens : AllFit rs (coordinator_reopens rs)
  fits_reopens = (
    tt,
    fits_aborts (rs ++ Opened (boot_of rs + 1) ∷ []) []
        (λ q f g e. in_none q rs (Opened (boot_of rs + 1) ∷ []) e (one_none q _ (f (boot_of rs + 1))))
        (cases_in rs)
        (each_once rs),
  )

-- What a trim leaves.

abbrev Less : List Record → List Record → Type 0
Less rs less = (q : Record → Bool) → ((k : ℕ) → q (Opened k) ≡ false) → has q rs ≡ false → has q less ≡ false

undecided_less : (rs less : List Record) → Less rs less → (c : Case) → Undecided rs c → Undecided less c
undecided_less rs less l c u = record {
  no_end = l (is_end c) (λ k. refl) u.no_end;
  no_commit = l (is_commit c) (λ k. refl) u.no_commit;
  no_abort = l (is_abort c) (λ k. refl) u.no_abort;
}

fits_less : (rs less : List Record) → Less rs less → (x : Record) → Fits rs x → Fits less x
fits_less rs less l (CollectingRecord c ts) f = (
  f.0,
  (
    undecided_less rs less l c f.1.0,
    (l (is_prepare c) (λ k. refl) f.1.1.0, l (is_collecting c) (λ k. refl) f.1.1.1),
  ),
)
fits_less rs less l (PrepareRecord c ts) f =
    (f.0, (undecided_less rs less l c f.1.0, l (is_prepare c) (λ k. refl) f.1.1))
fits_less rs less l (CommitRecord c ts) f = (f.0, undecided_less rs less l c f.1)
fits_less rs less l (AbortRecord c ts) f = (f.0, undecided_less rs less l c f.1)
fits_less rs less l x f = tt

fits_staying : (role : Role) (whole rs less xs : List Record) → Less rs less → AllFit rs xs
    → AllFit less (staying role whole xs)
fits_staying role whole rs less [] l f = tt
fits_staying role whole rs less (x ∷ xs) l f =
    by_test (stays role whole xs x)
    (fits_staying role whole (rs ++ x ∷ []) (less ++ x ∷ []) xs
    (λ q g e. in_none q less (x ∷ []) (l q g (first_false _ _ (sym (has-append q rs (x ∷ [])) ∙ e)))
    (second_false _ _ (sym (has-append q rs (x ∷ [])) ∙ e))) f.1)
    (fits_staying role whole (rs ++ x ∷ []) less xs
    (λ q g e. l q g (first_false _ _ (sym (has-append q rs (x ∷ [])) ∙ e))) f.1)
  where
    by_test : (b : Bool) → AllFit (less ++ x ∷ []) (staying role whole xs)
        → AllFit less (staying role whole xs)
        → AllFit less (if b then x ∷ staying role whole xs else staying role whole xs)
    by_test true g k = (fits_less rs less l x f.0, g)
    by_test false g k = k

fits_trimmed : (role : Role) (rs : List Record) → data_records role rs ≡ [] → AllFit [] rs
    → AllFit [] (trimmed role rs)
unfolding trimmed
fits_trimmed role rs e f =
    subst (λ (ds : List Record). AllFit [] ((Opened (boot_of rs) ∷ staying role rs rs) ++ ds)) (sym e)
    (subst (AllFit []) (sym (append-nil (Opened (boot_of rs) ∷ staying role rs rs))) (
      tt,
      fits_staying role rs [] (Opened (boot_of rs) ∷ []) rs
          (λ q g k. one_none q _ (g (boot_of rs))) f,
    ))

-- Steps.

-- what a coordinator's role makes of a restart and a trim
record Coordinating (role : Role) : Type 0 where
  reopens_so : (rs : List Record) → reopens role rs ≡ coordinator_reopens rs
  no_data : (rs : List Record) → data_records role rs ≡ []

abbrev Fitting : Node → Type 0
Fitting n = AllFit [] (kept n)

module _ (place : Place) (role : Coordinating place.role) (n : Node) (old : Fitting n)
    (turns : (h : Heard) (e : Effect) → reacts place n h ≡ Does e
    → AllFit (kept n) (entries_written e.written))
  where
    all_of : (h : Heard) (e : Effect) → reacts place n h ≡ Does e
        → AllFit [] (kept n ++ entries_written e.written)
    all_of h e r = fit_both [] (kept n) (entries_written e.written) old (turns h e r)

    a_front : (xs ys : List Record) (a : ℕ) → AllFit [] (xs ++ ys) → AllFit [] (xs ++ take a ys)
    a_front xs ys a f =
        fit_front [] (xs ++ take a ys) (drop a ys)
        (subst (AllFit [])
        (sym (append_assoc xs (take a ys) (drop a ys) ∙ ap (λ z. xs ++ z) (take-append-drop a ys))) f)

    appended : (h : Heard) (e : Effect) → reacts place n h ≡ Does e → Fitting (after n h e)
    appended h e r =
        let new = entries_written e.written in
        either_logs n new (is_any_forced e.written) (λ (l : Logs). AllFit [] (standing l))
        (λ b. subst (AllFit []) (sym (append-nil (kept n ++ new))) (all_of h e r))
        (λ b. subst (AllFit []) (append_assoc n.forced n.unforced new) (all_of h e r))

    left_fits : (k : ℕ) → AllFit [] (n.forced ++ take k n.unforced)
    left_fits k = a_front n.forced n.unforced k old

    reopened_fits : (k : ℕ) → let rs = n.forced ++ take k n.unforced in
        AllFit [] (rs ++ reopens place.role rs)
    reopened_fits k =
        let rs = n.forced ++ take k n.unforced in
        subst (λ (x : List Record). AllFit [] (rs ++ x)) (sym (role.reopens_so rs))
        (fit_both [] rs (coordinator_reopens rs) (left_fits k) (fits_reopens rs (left_fits k)))

    trimmed_fits : AllFit [] (trimmed place.role (kept n) ++ [])
    trimmed_fits =
        subst (AllFit []) (sym (append-nil (trimmed place.role (kept n))))
        (fits_trimmed place.role (kept n) (role.no_data (kept n)) old)

    trim_failed : (a : ℕ) → Fitting (trim_fails place n a)
    trim_failed zero = old
    trim_failed (suc a) = trimmed_fits

    fits_last : (m : Move) (e : Effect) (k : Node) → StepOf place n m e k → Fitting k
    fits_last m _ _ (handled i g hp np r) = appended (heard_in m i) g r
    fits_last m _ _ (failed_in i f g fl hp np r) =
        let new = entries_written g.written in
        subst (AllFit []) (sym (breaks_keeps (logs_of n) new f.appended f.forced))
        (a_front (kept n) new f.appended (all_of (heard_in m i) g r))
    fits_last m _ _ (passed i hp r) = old
    fits_last m _ _ (failed_passing i f fl hp r) = old
    fits_last m _ _ (reopened k hp) =
        let rs = n.forced ++ take k n.unforced in
        subst (AllFit []) (sym (append-nil (rs ++ reopens place.role rs))) (reopened_fits k)
    fits_last m _ _ (failed_reopening k f fl hp) =
        let rs = n.forced ++ take k n.unforced in
        let new = reopens place.role rs in
        subst (AllFit []) (sym (breaks_keeps (loses (logs_of n) k) new f.appended f.forced))
        (a_front rs new f.appended (reopened_fits k))
    fits_last m _ _ (trims_log hp up) = trimmed_fits
    fits_last m _ _ (failed_trimming f fl hp up) = trim_failed f.appended

-- Runs.

coordinating : (role : Role) → IsCoordinator role → Coordinating role
coordinating AtRoot i = record { reopens_so = λ rs. refl; no_data = λ rs. refl }
coordinating (Below p) i = record { reopens_so = λ rs. refl; no_data = λ rs. refl }
coordinating (AtLeaf p) i = absurd i

fits_at : (role : Role) → IsCoordinator role → (place : Place) (n : Node) (h : Heard) (e : Effect)
    → CoordinatorTurnAt role place n h e → AllFit [] (kept n) → AllFit (kept n) (entries_written e.written)
fits_at AtRoot i place n h e t a = fits_effect place None n h e t a
fits_at (Below p) i place n h e t a = fits_effect place (Some p) n h e t a
fits_at (AtLeaf p) i place n h e t a = absurd i

pub all_fit : (tree : List TreeProcess) (es : List Made) (w : World) → IsRun tree es w → (p : ProcessId)
    → IsCoordinator (role_of tree p) → AllFit [] (kept (w.at p))
all_fit tree _ _ opens p i = (tt, tt)
all_fit tree _ _ (makes es w m e w' run stands step) p i =
    let at = makes_at tree w m e w' step in
    let q = m.step.process in
    let s = step_of (place_of tree q) (w.at q) m e at.node at.made in
    let P : ProcessId → Node → Type 0 = λ x k. IsCoordinator (role_of tree x) → AllFit [] (kept k) in
    subst (λ (x : World). P p (x.at p)) (sym at.world)
    (put P q p at.node w.at
    (λ c. let old = all_fit tree es w run q c in
    fits_last (place_of tree q) (coordinating (role_of tree q) c) (w.at q) old
    (λ h g r. fits_at (role_of tree q) c (place_of tree q) (w.at q) h g
    (coordinator_turn_of (place_of tree q) (w.at q) h g r) old) m e at.node s)
    (all_fit tree es w run p)) i

pub cases_in_order : (tree : List TreeProcess) (es : List Made) (w : World) → IsRun tree es w
    → (p : ProcessId)
    → IsCoordinator (role_of tree p) → (c : Case) → CaseInOrder c (kept (w.at p))
cases_in_order tree es w run p i c =
    let f = all_fit tree es w run p i in
    let rs = kept (w.at p) in
    record { in_order = in_order c rs f; names = names c rs f; promise_names = promise_names c rs f }
