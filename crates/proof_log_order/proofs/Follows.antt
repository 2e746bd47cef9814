-- Boots rise in a coordinator's log, and each case ends once, over every run.
use Rattle.std.proofs.Common.{◌≡◌, ◌≢◌, ◌∙◌, ◌+◌, ◌<◌, ◌≤◌, ℕ, zero, suc, Bool, true, false, Option, Some, None, is_some, List, [], ◌∷◌, ◌++◌, take, drop, refl, sym, ap, subst, append_assoc, arith, if◌then◌else◌}
use Rattle.std.specs.List.{flat_map, fold}
use Rattle.std.proofs.lemmas.List.{append-nil, take-append-drop}
use Rattle.std.proofs.lemmas.List.Sums.{fold-append}
use Rattle.protocol.specs.declared.names.Case.{Case}
use Rattle.protocol.specs.declared.names.Outcome.{Outcome}
use Rattle.protocol_words.specs.Variants.{AbortRecord, AbortedOutcome, ClearedRecord, CollectingRecord, CommitRecord, CommittedOutcome, EndRecord, PrepareRecord}
use Rattle.protocol.specs.declared.names.ProcessId.{ProcessId}
use Rattle.protocol.specs.declared.names.Presumption.TheVariants.{PresumeAbort, PresumeCommit}
use Rattle.protocol.specs.declared.records.Record.{Record}
use Rattle.protocol.specs.declared.records.Record.TheVariants.{Opened}
use Rattle.protocol.specs.declared.standings.Standing.{Standing}
use Rattle.protocol.specs.declared.standings.Standing.TheVariants.{Unknown, Active, Collecting, Prepared, Committing, Aborting, Heuristic}
use Rattle.protocol.specs.declared.trees.TreeProcess.{TreeProcess}
use Rattle.protocol.specs.Names.{same_case}
use Rattle.protocol.specs.Records.{has, none_of, is_collecting, is_prepare, is_commit, is_abort, is_end, owing_by, boot_after, boot_of, cases_in, is_reported, record_case, reported_after}
use Rattle.protocol.specs.Nodes.{Role, AtRoot, Below, AtLeaf, Place, place_of, role_of, Node, kept, Heard, Effect, entries_written, is_any_forced, after, IsCoordinator}
use Rattle.protocol.specs.Memory.{memory_of}
use Rattle.protocol.specs.Standings.{CoordinatorView, coordinator_view, phase_standing, standing_by}
use Rattle.protocol.specs.CoordinatorRows.{Row}
use Rattle.protocol.specs.Reactions.{Does, reacts}
use Rattle.protocol.specs.Restarts.{recorded_view, restart_abort, aborts_collecting, coordinator_reopens, reopens, trim_fails, trims, trimmed, case_stays, staying, stays, data_records}
use Rattle.protocol.specs.World.{World, Move, Made, IsRun, opens, makes}
use Rattle.protocol.proofs.RunLaws.{makes_at}
use Rattle.proof_pairs.specs.turns.CoordinatorTurns.{HasDecided, by_commit, by_abort, CaseTurn, rests, invites, accepts, sends_work, finds_nobody, asks_for_votes, gives_up, counts_vote, reads_only, commits, promises, hears_no, aborts, passes_commit, passes_abort, repeats_yes, asks, refuses, acknowledges, waits_for_acks, ends, clears, answers, CoordinatorTurn, does_nothing, of_case, begins, gives_again, gives_fresh, presumes}
use Rattle.proof_pairs.specs.turns.Steps.{StepOf, heard_in, handled, failed_in, passed, failed_passing, reopened, failed_reopening, trims_log, failed_trimming}
use Rattle.proof_pairs.proofs.turns.Steps.{step_of}
use Rattle.proof_pairs.proofs.turns.CoordinatorReactions.{CoordinatorTurnAt, coordinator_turn_of}
use Rattle.proof_processes.specs.Lasts.{Logs, logs_of, standing}
use Rattle.proof_processes.proofs.Tests.{case_is, has-nil, has-cons, has-append, in_none, neither, first_false, second_false}
use Rattle.proof_processes.proofs.Appends.{breaks, breaks_keeps, either_logs, loses}
use Rattle.proof_processes.proofs.Cases.{viewed}
use Rattle.proof_processes.proofs.Worlds.{put}

-- as far as boots and ends go, a coordinator's record may be after these
abbrev pub Follows : List Record → Record → Type 0
Follows rs (Opened k) = boot_of rs < k
Follows rs (EndRecord c r) = has (is_end c) rs ≡ false
Follows rs (CollectingRecord c ts) = Unit {0}
Follows rs (PrepareRecord c ts) = Unit {0}
Follows rs (CommitRecord c ts) = Unit {0}
Follows rs (AbortRecord c ts) = Unit {0}
Follows rs (ClearedRecord c) = is_reported rs c ≡ true
Follows rs _ = ⊥

-- so may each of the list, after these and those of the list before it
abbrev pub AllFollow : List Record → List Record → Type 0
AllFollow rs [] = Unit {0}
AllFollow rs (x ∷ xs) = Follows rs x × AllFollow (rs ++ x ∷ []) xs

-- it begins with an Opened
pub data Begins : List Record → Type 0 where
  opened_first : (k : ℕ) (rs : List Record) → 0 < k → Begins (Opened k ∷ rs)

-- a coordinator's log, by its forced front and the records after it
pub record IsWritten (forced unforced : List Record) : Type 0 where
  pub begins : Begins forced
  pub follow : AllFollow [] (forced ++ unforced)

abbrev IsWrittenAt : Node → Type 0
IsWrittenAt n = IsWritten n.forced n.unforced

-- Lists.

follow_front : (rs xs ys : List Record) → AllFollow rs (xs ++ ys) → AllFollow rs xs
follow_front rs [] ys f = tt
follow_front rs (x ∷ xs) ys f = (f.0, follow_front (rs ++ x ∷ []) xs ys f.1)

follow_both : (rs xs ys : List Record) → AllFollow rs xs → AllFollow (rs ++ xs) ys → AllFollow rs (xs ++ ys)
follow_both rs [] ys f g = subst (λ (z : List Record). AllFollow z ys) (append-nil rs) g
follow_both rs (x ∷ xs) ys f g = (
  f.0,
  follow_both (rs ++ x ∷ []) xs ys f.1
      (subst (λ (z : List Record). AllFollow z ys) (sym (append_assoc rs (x ∷ []) xs)) g),
)

a_front : (xs ys : List Record) (a : ℕ) → AllFollow [] (xs ++ ys) → AllFollow [] (xs ++ take a ys)
a_front xs ys a f =
    follow_front [] (xs ++ take a ys) (drop a ys)
    (subst (AllFollow [])
    (sym (append_assoc xs (take a ys) (drop a ys) ∙ ap (λ z. xs ++ z) (take-append-drop a ys))) f)

pub begins_still : (xs ys : List Record) → Begins xs → Begins (xs ++ ys)
begins_still _ ys (opened_first k rs h) = opened_first k (rs ++ ys) h

pub boot_behind : (rs : List Record) (x : Record) → boot_of (rs ++ x ∷ []) ≡ boot_after (boot_of rs) x
unfolding boot_of
boot_behind rs x = fold-append boot_after 0 rs (x ∷ [])

pub reported_behind : (rs : List Record) (x : Record) (c : Case)
    → is_reported (rs ++ x ∷ []) c ≡ reported_after c (is_reported rs c) x
unfolding is_reported
reported_behind rs x c = fold-append (reported_after c) false rs (x ∷ [])

-- boots only rise along the list
boot_grows : (rs xs : List Record) → AllFollow rs xs → boot_of rs ≤ boot_of (rs ++ xs)
boot_grows rs [] f = subst (λ (z : List Record). boot_of rs ≤ boot_of z) (sym (append-nil rs))
    (itself (boot_of rs))
  where
    itself : (a : ℕ) → a ≤ a
    itself a = omega arith
boot_grows rs (x ∷ xs) f =
    by_both (boot_of rs) (boot_of (rs ++ x ∷ [])) (boot_of (rs ++ x ∷ xs))
    (by_record x f.0)
    (subst (λ (z : List Record). boot_of (rs ++ x ∷ []) ≤ boot_of z) (append_assoc rs (x ∷ []) xs)
    (boot_grows (rs ++ x ∷ []) xs f.1))
  where
    by_both : (a b c : ℕ) → a ≤ b → b ≤ c → a ≤ c
    by_both a b c h k = omega arith

    by_record : (y : Record) → Follows rs y → boot_of rs ≤ boot_of (rs ++ y ∷ [])
    by_record (Opened k) h = rw (boot_behind rs (Opened k)) (omega arith)
    by_record (EndRecord c r) h = rw (boot_behind rs (EndRecord c r)) (omega arith)
    by_record (CollectingRecord c ts) h = rw (boot_behind rs (CollectingRecord c ts)) (omega arith)
    by_record (PrepareRecord c ts) h = rw (boot_behind rs (PrepareRecord c ts)) (omega arith)
    by_record (CommitRecord c ts) h = rw (boot_behind rs (CommitRecord c ts)) (omega arith)
    by_record (ClearedRecord c) h = rw (boot_behind rs (ClearedRecord c)) (omega arith)
    by_record (AbortRecord c ts) h = rw (boot_behind rs (AbortRecord c ts)) (omega arith)
    by_record y h = absurd h

-- What a row writes.

-- a case that is not Unknown has not ended
unended : (E C A P K N : Bool) (heard s : Standing) → (s ≡ Unknown → ⊥) → standing_by E C A P K N heard ≡ s
    → E ≡ false
unended true C A P K N heard s f e = absurd (f (sym e))
unended false C A P K N heard s f e = refl

module _ (place : Place) (parent : Option ProcessId) (n : Node) (h : Heard) (c : Case) where
  not_ended : (s : Standing) → (s ≡ Unknown → ⊥) → (coordinator_view place n c).standing ≡ s
      → has (is_end c) (kept n) ≡ false
  not_ended s f e =
      unended (has (is_end c) (kept n)) (has (is_commit c) (kept n)) (has (is_abort c) (kept n))
      (has (is_prepare c) (kept n)) (has (is_collecting c) (kept n)) (none_of (owing_by c (kept n)))
      (phase_standing c.txn.presumption (memory_of place n c).phase) s f (sym (viewed place n c) ∙ e)

  decided_once : (o : Outcome) (s : Standing) → HasDecided o s → (coordinator_view place n c).standing ≡ s
      → has (is_end c) (kept n) ≡ false
  decided_once _ _ by_commit e = not_ended Committing (λ x. cc) e
  decided_once _ _ by_abort e = not_ended Aborting (λ x. cc) e

  follows_turn : (row : Row) → CaseTurn place parent n h c row
      → AllFollow (kept n) (entries_written row.written)
  follows_turn _ (asks_for_votes PresumeAbort i e f g) = tt
  follows_turn _ (asks_for_votes PresumeCommit i e f g) = (tt, tt)
  follows_turn _ (commits t w ys PresumeAbort i e f g) = (tt, tt)
  follows_turn _ (commits t w ys PresumeCommit i e f g) = (tt, tt)
  follows_turn _ (promises t w ys p i e f) = (tt, tt)
  follows_turn _ (hears_no t us PresumeAbort i e f) = (tt, tt)
  follows_turn _ (hears_no t us PresumeCommit i e f) = (tt, tt)
  follows_turn _ (aborts why us PresumeAbort i e f g) = (tt, tt)
  follows_turn _ (aborts why us PresumeCommit i e f g) = (tt, tt)
  follows_turn _ (passes_commit PresumeAbort i e f) = (tt, tt)
  follows_turn _ (passes_commit PresumeCommit i e f) = (tt, tt)
  follows_turn _ (passes_abort PresumeAbort i e f) = (tt, tt)
  follows_turn _ (passes_abort PresumeCommit i e f) = (tt, tt)
  follows_turn _ (reads_only t w ys PresumeAbort i e f) = tt
  follows_turn _ (reads_only t w ys PresumeCommit i e f) = (not_ended Collecting (λ x. cc) i.vote.stands, tt)
  follows_turn _ (ends t o fs i e f g) = (decided_once o (coordinator_view place n c).standing e refl, tt)
  follows_turn _ (rests r) = tt
  follows_turn _ (invites q i e f g) = tt
  follows_turn _ (accepts t i e f) = tt
  follows_turn _ (sends_work q t op i e f g) = tt
  follows_turn _ (finds_nobody i e f) = tt
  follows_turn _ (gives_up why p i e f) = tt
  follows_turn _ (counts_vote t w i f e) = tt
  follows_turn _ (repeats_yes j i e) = tt
  follows_turn _ (asks i e) = tt
  follows_turn _ (refuses j i e) = tt
  follows_turn _ (acknowledges o fs i e) = tt
  follows_turn _ (waits_for_acks t o fs i e f g) = tt
  follows_turn _ (clears i e f g) = (g, tt)
  follows_turn _ (answers t o i e) = tt

follows_effect : (place : Place) (parent : Option ProcessId) (n : Node) (h : Heard) (e : Effect)
    → CoordinatorTurn place parent n h e → AllFollow (kept n) (entries_written e.written)
follows_effect place parent n h _ (of_case c row t) = follows_turn place parent n h c row t
follows_effect place parent n h _ (does_nothing i) = tt
follows_effect place parent n h _ (begins p e i) = tt
follows_effect place parent n h _ (gives_again p d t e i f) = tt
follows_effect place parent n h _ (gives_fresh p d e i f) = tt
follows_effect place parent n h _ (presumes x t i e) = tt

-- What a restart appends.

module _ (rs : List Record) where
  follows_abort : (pre : List Record) (d : Case) (v : CoordinatorView) (s : Standing)
      → AllFollow pre (restart_abort d v s)
  follows_abort pre d v Collecting = (tt, tt)
  follows_abort pre d v Unknown = tt
  follows_abort pre d v Active = tt
  follows_abort pre d v Prepared = tt
  follows_abort pre d v Committing = tt
  follows_abort pre d v Aborting = tt
  follows_abort pre d v Heuristic = tt

  follows_aborts : (pre : List Record) (cs : List Case) → AllFollow pre (flat_map (aborts_collecting rs) cs)
  follows_aborts pre [] = tt
  follows_aborts pre (d ∷ cs) =
      follow_both pre (aborts_collecting rs d) (flat_map (aborts_collecting rs) cs)
      (follows_abort pre d (recorded_view rs d) (recorded_view rs d).standing)
      (follows_aborts (pre ++ aborts_collecting rs d) cs)

  follows_reopens : AllFollow rs (coordinator_reopens rs)
  follows_reopens = (rising (boot_of rs), follows_aborts (rs ++ Opened (boot_of rs + 1) ∷ []) (cases_in rs))
    where
      rising : (b : ℕ) → b < b + 1
      rising b = omega arith

-- What a trim leaves.

-- there is no more than in these, and of each case that stays the same is reported
record Less (whole rs less : List Record) : Type 0 where
  fewer : (q : Record → Bool) → ((k : ℕ) → q (Opened k) ≡ false) → has q rs ≡ false → has q less ≡ false
  reported : (c : Case) → case_stays whole (Some c) ≡ true → is_reported less c ≡ is_reported rs c

module _ (role : Role) (coordinator : IsCoordinator role) (whole : List Record) where
  no_boot_stays : (behind : List Record) (k : ℕ) → stays role whole behind (Opened k) ≡ false
  no_boot_stays behind k = by_role role coordinator
    where
      by_role : (r : Role) → IsCoordinator r → stays r whole behind (Opened k) ≡ false
      by_role AtRoot i = refl
      by_role (Below p) i = refl
      by_role (AtLeaf p) i = absurd i

  stays_as : (behind : List Record) (x : Record) → stays role whole behind x
      ≡ case_stays whole (record_case x)
  stays_as behind x = by_role role coordinator
    where
      by_role : (r : Role) → IsCoordinator r → stays r whole behind x ≡ case_stays whole (record_case x)
      by_role AtRoot i = refl
      by_role (Below p) i = refl
      by_role (AtLeaf p) i = absurd i

  -- a record that does not stay says nothing of what is reported of a case that does
  unstayed : (behind : List Record) (x : Record) → stays role whole behind x ≡ false → (c : Case)
      → case_stays whole (Some c) ≡ true → (b : Bool) → reported_after c b x ≡ b
  unstayed behind x s c k b = of_record x (sym (stays_as behind x) ∙ s)
    where
      apart : (d : Case) → case_stays whole (Some d) ≡ false → same_case d c ≡ false
      apart d t = by_same (same_case d c) refl
        where
          by_same : (z : Bool) → same_case d c ≡ z → same_case d c ≡ false
          by_same false e = e
          by_same true e = absurd
              (let clash : true ≡ false = sym k ∙ (ap (λ y. case_stays whole (Some y)) (sym (case_is d c e))
              ∙ t) in cc)

      of_record : (y : Record) → case_stays whole (record_case y) ≡ false → reported_after c b y ≡ b
      of_record (EndRecord d rep) t = ap (λ z. if z then is_some rep else b) (apart d t)
      of_record (ClearedRecord d) t = ap (λ z. if z then false else b) (apart d t)
      of_record y t = refl

  follows_less : (rs less behind : List Record) → Less whole rs less → (x : Record)
      → stays role whole behind x ≡ true → Follows rs x → Follows less x
  follows_less rs less behind l (Opened k) s f =
      absurd (let y : false ≡ true = sym (no_boot_stays behind k) ∙ s in cc)
  follows_less rs less behind l (EndRecord c r) s f = l.fewer (is_end c) (λ k. refl) f
  follows_less rs less behind l (ClearedRecord c) s f =
      l.reported c (sym (stays_as behind (ClearedRecord c)) ∙ s) ∙ f
  follows_less rs less behind l (CollectingRecord c ts) s f = tt
  follows_less rs less behind l (PrepareRecord c ts) s f = tt
  follows_less rs less behind l (CommitRecord c ts) s f = tt
  follows_less rs less behind l (AbortRecord c ts) s f = tt
  follows_less rs less behind l x s f = absurd f

  follows_staying : (rs less xs : List Record) → Less whole rs less → AllFollow rs xs
      → AllFollow less (staying role whole xs)
  follows_staying rs less [] l f = tt
  follows_staying rs less (x ∷ xs) l f =
      by_test (stays role whole xs x) refl
      (follows_staying (rs ++ x ∷ []) (less ++ x ∷ []) xs
      (record {
        fewer = λ q g e. in_none q less (x ∷ [])
            (l.fewer q g (first_false _ _ (sym (has-append q rs (x ∷ [])) ∙ e)))
            (second_false _ _ (sym (has-append q rs (x ∷ [])) ∙ e));
        reported = λ c k. reported_behind less x c
            ∙ (ap (λ b. reported_after c b x) (l.reported c k) ∙ sym (reported_behind rs x c));
      }) f.1)
      (λ s. follows_staying (rs ++ x ∷ []) less xs
      (record {
        fewer = λ q g e. l.fewer q g (first_false _ _ (sym (has-append q rs (x ∷ [])) ∙ e));
        reported = λ c k. l.reported c k ∙ sym (reported_behind rs x c
            ∙ unstayed xs x s c k (is_reported rs c));
      }) f.1)
    where
      by_test : (b : Bool) → stays role whole xs x ≡ b → AllFollow (less ++ x ∷ []) (staying role whole xs)
          → (stays role whole xs x ≡ false → AllFollow less (staying role whole xs))
          → AllFollow less (if b then x ∷ staying role whole xs else staying role whole xs)
      by_test true s g k = (follows_less rs less xs l x s f.0, g)
      by_test false s g k = k s

  -- the boot of a log that begins with an Opened
  boot_is_some : (rs : List Record) → Begins rs → AllFollow [] rs → 0 < boot_of rs
  unfolding boot_of
  boot_is_some _ (opened_first k rs h) f =
      by_both k (boot_of (Opened k ∷ rs)) h (boot_grows (Opened k ∷ []) rs f.1)
    where
      by_both : (a b : ℕ) → 0 < a → a ≤ b → 0 < b
      by_both a b g e = omega arith

  follows_trimmed : Begins whole → AllFollow [] whole
      → AllFollow [] (Opened (boot_of whole) ∷ staying role whole whole)
  unfolding boot_of is_reported
  follows_trimmed b f = (
    boot_is_some whole b f,
    follows_staying [] (Opened (boot_of whole) ∷ []) whole
        (record { fewer = λ q g k. one_none q (g (boot_of whole)); reported = λ c k. refl }) f,
  )
    where
      one_none : (q : Record → Bool) → q (Opened (boot_of whole)) ≡ false
          → has q (Opened (boot_of whole) ∷ []) ≡ false
      one_none q e =
          has-cons q (Opened (boot_of whole)) [] ∙ neither (q (Opened (boot_of whole)))
          (has q []) e (has-nil q)

-- Steps.

-- what a coordinator's role makes of a restart and a trim
record Coordinating (role : Role) : Type 0 where
  coordinator : IsCoordinator role
  reopens_so : (rs : List Record) → reopens role rs ≡ coordinator_reopens rs
  no_data : (rs : List Record) → data_records role rs ≡ []

module _ (place : Place) (role : Coordinating place.role) (n : Node) (old : IsWrittenAt n)
    (turns : (h : Heard) (e : Effect) → reacts place n h ≡ Does e
    → AllFollow (kept n) (entries_written e.written))
  where
    all_of : (h : Heard) (e : Effect) → reacts place n h ≡ Does e
        → AllFollow [] (kept n ++ entries_written e.written)
    all_of h e r = follow_both [] (kept n) (entries_written e.written) old.follow (turns h e r)

    appended : (h : Heard) (e : Effect) → reacts place n h ≡ Does e → IsWrittenAt (after n h e)
    appended h e r =
        let new = entries_written e.written in
        either_logs n new (is_any_forced e.written) (λ (l : Logs). IsWritten l.forced l.unforced)
        (λ b. record {
          begins = begins_still (kept n) new (begins_still n.forced n.unforced old.begins);
          follow = subst (AllFollow []) (sym (append-nil (kept n ++ new))) (all_of h e r);
        })
        (λ b. record {
          begins = old.begins;
          follow = subst (AllFollow []) (append_assoc n.forced n.unforced new) (all_of h e r);
        })

    left_follows : (k : ℕ) → AllFollow [] (n.forced ++ take k n.unforced)
    left_follows k = a_front n.forced n.unforced k old.follow

    reopened_follows : (k : ℕ) → let rs = n.forced ++ take k n.unforced in
        AllFollow [] (rs ++ reopens place.role rs)
    reopened_follows k =
        let rs = n.forced ++ take k n.unforced in
        subst (λ (x : List Record). AllFollow [] (rs ++ x)) (sym (role.reopens_so rs))
        (follow_both [] rs (coordinator_reopens rs) (left_follows k) (follows_reopens rs))

    trimmed_so : IsWrittenAt (trims place n)
    unfolding trimmed
    trimmed_so =
        let rs = kept n in
        let b = begins_still n.forced n.unforced old.begins in
        let front = Opened (boot_of rs) ∷ staying place.role rs rs in
        subst (λ (ds : List Record). IsWritten (front ++ ds) []) (sym (role.no_data rs))
        (record {
          begins = opened_first (boot_of rs) (staying place.role rs rs ++ [])
              (boot_is_some place.role role.coordinator rs rs b old.follow);
          follow = subst (AllFollow []) (sym (ap (λ xs. xs ++ []) (append-nil front) ∙ append-nil front))
              (follows_trimmed place.role role.coordinator rs b old.follow);
        })

    trim_failed : (a : ℕ) → IsWrittenAt (trim_fails place n a)
    trim_failed zero = old
    trim_failed (suc a) = trimmed_so

    written_last : (m : Move) (e : Effect) (k : Node) → StepOf place n m e k → IsWrittenAt k
    written_last m _ _ (handled i g hp np r) = appended (heard_in m i) g r
    written_last m _ _ (failed_in i f g fl hp np r) =
        let new = entries_written g.written in
        record {
          begins = begins_still n.forced (take f.forced (n.unforced ++ take f.appended new)) old.begins;
          follow = subst (AllFollow []) (sym (breaks_keeps (logs_of n) new f.appended f.forced))
              (a_front (kept n) new f.appended (all_of (heard_in m i) g r));
        }
    written_last m _ _ (passed i hp r) = old
    written_last m _ _ (failed_passing i f fl hp r) = old
    written_last m _ _ (reopened k hp) =
        let rs = n.forced ++ take k n.unforced in
        record {
          begins = begins_still rs (reopens place.role rs)
              (begins_still n.forced (take k n.unforced) old.begins);
          follow = subst (AllFollow []) (sym (append-nil (rs ++ reopens place.role rs))) (reopened_follows k);
        }
    written_last m _ _ (failed_reopening k f fl hp) =
        let rs = n.forced ++ take k n.unforced in
        let new = reopens place.role rs in
        record {
          begins = begins_still n.forced (take f.forced (take k n.unforced ++ take f.appended new))
              old.begins;
          follow = subst (AllFollow []) (sym (breaks_keeps (loses (logs_of n) k) new f.appended f.forced))
              (a_front rs new f.appended (reopened_follows k));
        }
    written_last m _ _ (trims_log hp up) = trimmed_so
    written_last m _ _ (failed_trimming f fl hp up) = trim_failed f.appended

-- Runs.

coordinating : (role : Role) → IsCoordinator role → Coordinating role
coordinating AtRoot i = record { coordinator = i; reopens_so = λ rs. refl; no_data = λ rs. refl }
coordinating (Below p) i = record { coordinator = i; reopens_so = λ rs. refl; no_data = λ rs. refl }
coordinating (AtLeaf p) i = absurd i

follows_at : (role : Role) → IsCoordinator role → (place : Place) (n : Node) (h : Heard) (e : Effect)
    → CoordinatorTurnAt role place n h e → AllFollow (kept n) (entries_written e.written)
follows_at AtRoot i place n h e t = follows_effect place None n h e t
follows_at (Below p) i place n h e t = follows_effect place (Some p) n h e t
follows_at (AtLeaf p) i place n h e t = absurd i

pub written_so : (tree : List TreeProcess) (es : List Made) (w : World) → IsRun tree es w → (p : ProcessId)
    → IsCoordinator (role_of tree p) → IsWritten (w.at p).forced (w.at p).unforced
unfolding boot_of
written_so tree _ _ opens p i =
    record { begins = opened_first 1 [] (omega arith); follow = (omega arith, tt) }
written_so tree _ _ (makes es w m e w' run stands step) p i =
    let at = makes_at tree w m e w' step in
    let q = m.step.process in
    let s = step_of (place_of tree q) (w.at q) m e at.node at.made in
    let P : ProcessId → Node → Type 0 = λ x k. IsCoordinator (role_of tree x) → IsWritten k.forced k.unforced
    in
    subst (λ (x : World). P p (x.at p)) (sym at.world)
    (put P q p at.node w.at
    (λ c. written_last (place_of tree q) (coordinating (role_of tree q) c) (w.at q)
    (written_so tree es w run q c)
    (λ h g r. follows_at (role_of tree q) c (place_of tree q) (w.at q) h g
    (coordinator_turn_of (place_of tree q) (w.at q) h g r)) m e at.node s)
    (written_so tree es w run p)) i
