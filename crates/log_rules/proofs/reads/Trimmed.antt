-- What a coordinator reads of its log once it was trimmed.
use Rattle.std.proofs.Common.{◌≡◌, Bool, true, false, not, ◌&&◌, ◌||◌, if◌then◌else◌, ℕ, List, [], ◌∷◌, ◌++◌, Option, Some, fold, is_some, refl, sym, ap, ◌∙◌, arith, append-nil, None}
use Rattle.std.proofs.lemmas.Grind.{common_steps}
use Rattle.std.specs.List.{AllByRecursion, list_any}
use Rattle.xa_xid.specs.declared.xid.Xid.{Xid}
use Rattle.protocol.specs.declared.names.Case.{Case}
use Rattle.protocol.specs.declared.names.Kind.TheVariants.{Coordinator}
use Rattle.protocol.specs.declared.names.Presumption.{Presumption}
use Rattle.protocol.specs.declared.names.Presumption.TheVariants.{PresumeAbort, PresumeCommit}
use Rattle.protocol.specs.declared.names.ProcessId.{ProcessId}
use Rattle.protocol.specs.declared.names.Ticket.{Ticket}
use Rattle.protocol_words.specs.Variants.{CaseBranch, CollectingStanding}
use Rattle.protocol.specs.declared.records.LogRecord.{LogRecord}
use Rattle.protocol.specs.declared.records.Record.{Record}
use Rattle.protocol.specs.declared.records.Record.TheVariants.{Opened, Collecting, Prepare, Commit, Abort, End, Prepared, Committed, RolledBack, Direct, HeurCommit, HeurRollback, Told, Forgot, Base, Pair, Cleared}
use Rattle.protocol.specs.declared.standings.Standing.{Standing}
use Rattle.protocol.specs.declared.standings.Standing.TheVariants.{Unknown, Active, Prepared as PreparedStanding, Committing, Aborting, Heuristic}
use Rattle.protocol.specs.LogNames.{foreign_to, is_own, name_xid, own_by, own_records}
use Rattle.protocol.specs.Memory.{fresh_memory, Idle}
use Rattle.protocol.specs.Names.{same_case}
use Rattle.protocol.specs.Nodes.{AtLeaf, AtRoot, Below, Place, Role, IsCoordinator}
use Rattle.protocol.specs.Records.{boot_after, boot_of, has, is_abort, is_collecting, is_commit, is_end, is_opened, is_prepare, none_of, owing_by, owing_in, is_reported, record_case, reported_after}
use Rattle.protocol.specs.Restarts.{case_stays, data_records, is_known, recorded_view, trimmed, stays as model_stays, staying as model_staying}
use Rattle.protocol.specs.Standings.{CoordinatorView, coordinator_standing, known_view, phase_standing, standing_by}
use Rattle.log_rules.specs.declared.trim.lives.Said.TheVariants.{Nothing}
use Rattle.log_rules.specs.trim.Tables.{is_live, is_prepared, log_name}
use Rattle.log_rules.specs.trim.Trims.{front_of_trim, is_of, last_opened, opened_after, prepares, said_of, stays, stays_by, staying}
use Rattle.log_rules.specs.sound.Sound.{IsSound, IsSoundName}
use Rattle.log_rules.specs.reads.ReadTrims.{CoordinatorsReadTrims}
use Rattle.log_rules.proofs.reads.CaseSayings.{decided, foreign_none, owed, says, started}
use Rattle.log_rules.proofs.reads.LastOpened.{ReadsBoot, opened_last, own_append}
use Rattle.log_rules.proofs.reads.Sayings.{behind, live_is_known}

-- Lists.

-- a test that one of two passes
has_either : (q r : Record → Bool) (rs : List Record) → has (λ x. q x || r x) rs ≡ (has q rs || has r rs)
unfolding has
has_either q r [] = refl
has_either q r (x ∷ rs) = grind (arith, common_steps, has_either q r rs)

none_append : (ts us : List Ticket) → none_of (ts ++ us) ≡ (none_of ts && none_of us)
unfolding none_of
none_append [] us = refl
none_append (t ∷ ts) us = refl

some_owed : (c : Case) (rs : List Record) → has (owed c) rs ≡ not (none_of (owing_by c rs))
unfolding has owing_by none_of
some_owed c [] = refl
some_owed c (r ∷ rs) =
    ap (λ b. owed c r || b) (some_owed c rs) ∙ neither (none_of (owing_in c r)) (none_of (owing_by c rs))
    ∙ ap not (sym (none_append (owing_in c r) (owing_by c rs)))
  where
    neither : (a b : Bool) → (not a || not b) ≡ not (a && b)
    neither true b = refl
    neither false b = refl

-- who is owed was named by a decision
owed_decides : (c : Case) (r : Record) → owed c r ≡ true → decided c r ≡ true
unfolding none_of
owed_decides c (Commit d ts) h = by_case (same_case d c) refl h
  where
    by_case : (b : Bool) → same_case d c ≡ b → not (none_of (if b then ts else [])) ≡ true
        → (b || false) ≡ true
    by_case true e f = refl
    by_case false e f = f
owed_decides c (Abort d ts) h = by_case (same_case d c) refl h
  where
    by_case : (b : Bool) → same_case d c ≡ b → not (none_of (if b then ts else [])) ≡ true
        → (false || b) ≡ true
    by_case true e f = refl
    by_case false e f = f
owed_decides c (Opened n) h = h
owed_decides c (Collecting d ts) h = h
owed_decides c (Prepare d ts) h = h
owed_decides c (End d rep) h = h
owed_decides c (Cleared d) h = h
owed_decides c (Prepared b ws) h = h
owed_decides c (Committed b) h = h
owed_decides c (RolledBack b) h = h
owed_decides c (Direct b ws) h = h
owed_decides c (HeurCommit b) h = h
owed_decides c (HeurRollback b) h = h
owed_decides c (Told b o) h = h
owed_decides c (Forgot b) h = h
owed_decides c (Base n) h = h
owed_decides c (Pair k v) h = h

has_more : (q r : Record → Bool) (rs : List Record) → ((x : Record) → q x ≡ true → r x ≡ true)
    → has q rs ≡ true → has r rs ≡ true
unfolding has
has_more q r [] h e = e
has_more q r (x ∷ rs) h e = by_test (q x) refl e (has_more q r rs h)
  where
    or_true : (b : Bool) → (b || true) ≡ true
    or_true true = refl
    or_true false = refl

    by_test : (b : Bool) → q x ≡ b → (b || has q rs) ≡ true → (has q rs ≡ true → has r rs ≡ true)
        → (r x || has r rs) ≡ true
    by_test true is f more = ap (λ b. b || has r rs) (h x is)
    by_test false is f more = ap (λ b. r x || b) (more f) ∙ or_true (r x)

-- A case is kept exactly where it is live.

known_stays : (s : Standing) (v : CoordinatorView) → v.standing ≡ s
    → is_known (known_view s v).standing ≡ is_known s
known_stays Unknown v e = refl
known_stays Active v e = ap is_known e
known_stays CollectingStanding v e = ap is_known e
known_stays PreparedStanding v e = ap is_known e
known_stays Committing v e = ap is_known e
known_stays Aborting v e = ap is_known e
known_stays Heuristic v e = ap is_known e

idle_unknown : (p : Presumption) → phase_standing p Idle ≡ Unknown
idle_unknown PresumeAbort = refl
idle_unknown PresumeCommit = refl

twice : (b : Bool) → not (not b) ≡ b
twice true = refl
twice false = refl

-- what is reported has ended
reported_ended : (c : Case) (b : Bool) (rs : List Record)
    → fold (reported_after c) b rs ≡ true → (b || has (is_end c) rs) ≡ true
unfolding has
reported_ended c b [] e = ap (λ k. k || false) e
reported_ended c b (r ∷ rs) e = one r (reported_ended c (reported_after c b r) rs e)
  where
    or_true : (k : Bool) → (k || true) ≡ true
    or_true true = refl
    or_true false = refl

    ended : (same some : Bool) → ((if same then some else b) || has (is_end c) rs) ≡ true
        → (b || (same || has (is_end c) rs)) ≡ true
    ended true some h = or_true b
    ended false some h = h

    cleared : (same : Bool) → ((if same then false else b) || has (is_end c) rs) ≡ true
        → (b || has (is_end c) rs) ≡ true
    cleared true h = ap (λ k. b || k) h ∙ or_true b
    cleared false h = h

    one : (r : Record) → (reported_after c b r || has (is_end c) rs) ≡ true
        → (b || (is_end c r || has (is_end c) rs)) ≡ true
    one (End d rep) h = ended (same_case d c) (is_some rep) h
    one (Cleared d) h = cleared (same_case d c) h
    one (Opened n) h = h
    one (Collecting d ts) h = h
    one (Prepare d ts) h = h
    one (Commit d ts) h = h
    one (Abort d ts) h = h
    one (Prepared k ws) h = h
    one (Committed k) h = h
    one (RolledBack k) h = h
    one (Direct k ws) h = h
    one (HeurCommit k) h = h
    one (HeurRollback k) h = h
    one (Told k o) h = h
    one (Forgot k) h = h
    one (Base n) h = h
    one (Pair k v) h = h

kept_if_live : (c : Case) (rs : List Record)
    → is_live (behind Nothing (has (is_end c) rs) (fold (reported_after c) false rs) (has (owed c) rs)
    (has (decided c) rs) (has (started c) rs)) ≡ case_stays rs (Some c)
unfolding recorded_view is_reported
kept_if_live c rs =
    let cm = has (is_commit c) rs in
    let ab = has (is_abort c) rs in
    let pr = has (is_prepare c) rs in
    let co = has (is_collecting c) rs in
    let e = has (is_end c) rs in
    let q = fold (reported_after c) false rs in
    let o = has (owed c) rs in
    let decisions : has (decided c) rs ≡ (cm || ab) = has_either (is_commit c) (is_abort c) rs in
    let starts : has (started c) rs ≡ (pr || co) = has_either (is_prepare c) (is_collecting c) rs in
    let nobody : not o ≡ none_of (owing_by c rs) = ap not (some_owed c rs)
    ∙ twice (none_of (owing_by c rs)) in
    ap (λ d. is_live (behind Nothing e q o d (has (started c) rs))) decisions
    ∙ ap (λ b. is_live (behind Nothing e q o (cm || ab) b)) starts
    ∙ live_is_known e q o cm ab pr co (λ some. sym decisions
    ∙ has_more (owed c) (decided c) rs (owed_decides c) some) (reported_ended c false rs)
    ∙ ap (λ n. is_known (standing_by e cm ab pr co n Unknown) || q) nobody
    ∙ ap (λ s. is_known (standing_by e cm ab pr co (none_of (owing_by c rs)) s) || q) (sym (idle_unknown
    c.txn.presumption))
    ∙ ap (λ k. k || q) (sym (known_stays (coordinator_standing rs c fresh_memory) _ refl))

-- A record stays as the model's does.

none_prepared : (x : Xid) (ls : List LogRecord) → AllByRecursion (IsSound Coordinator) ls
    → list_any (prepares x) ls ≡ false
none_prepared x [] h = refl
none_prepared x (l ∷ ls) h = ap (λ b. b || list_any (prepares x) ls) (not_prepared l h.0)
    ∙ none_prepared x ls h.1
  where
    and_false : (b : Bool) → (b && false) ≡ false
    and_false true = refl
    and_false false = refl

    not_prepared : (l : LogRecord) → IsSound Coordinator l → prepares x l ≡ false
    not_prepared l h = by_entry l.entry l.parent h
      where
        by_entry : (r : Record) (q : Option ProcessId)
            → IsSound Coordinator (record { entry = r; parent = q })
            → (is_of x (record { entry = r; parent = q }) && is_prepared r) ≡ false
        by_entry (Opened n) q h = refl
        by_entry (Collecting d ts) q h = and_false _
        by_entry (Prepare d ts) q h = and_false _
        by_entry (Commit d ts) q h = and_false _
        by_entry (Abort d ts) q h = and_false _
        by_entry (End d rep) q h = and_false _
        by_entry (Cleared d) q h = and_false _
        by_entry (Prepared b ws) q h = absurd h.1
        by_entry (Committed b) q h = absurd h.1
        by_entry (RolledBack b) q h = absurd h.1
        by_entry (Direct b ws) q h = absurd h.1
        by_entry (HeurCommit b) q h = absurd h.1
        by_entry (HeurRollback b) q h = absurd h.1
        by_entry (Told b o) q h = absurd h.1
        by_entry (Forgot b) q h = absurd h.1
        by_entry (Base n) q h = absurd h.1
        by_entry (Pair k v) q h = absurd h.1

model_case_stays : (role : Role) (rs after : List Record) (r : Record) → IsCoordinator role
    → model_stays role rs after r ≡ case_stays rs (record_case r)
model_case_stays AtRoot rs after r h = refl
model_case_stays (Below p) rs after r h = refl
model_case_stays (AtLeaf p) rs after r h = absurd h

module _ (place : Place) (ls : List LogRecord) (coordinates : IsCoordinator place.role)
    (sound : AllByRecursion
    (IsSound Coordinator) ls) where
  abbrev pub read : List Record
  read = own_records place ls

  -- a record of an own case stays where the case is kept
  case_as_model : (q : Option ProcessId) (d : Case) (rest : List LogRecord) → is_own place q d ≡ true
      → IsSoundName q (CaseBranch d)
      → AllByRecursion (IsSound Coordinator) rest → stays_by ls rest (Some (name_xid q (CaseBranch d)))
      ≡ case_stays read (Some d)
  unfolding said_of
  case_as_model q d rest own name h =
      ap (λ b. is_live (said_of (name_xid q (CaseBranch d)) ls) && not b) (none_prepared (name_xid q
      (CaseBranch d)) rest h)
      ∙ and_true (is_live (said_of (name_xid q (CaseBranch d)) ls))
      ∙ ap is_live (says place q d coordinates own name ls Nothing sound) ∙ kept_if_live d read
    where
      and_true : (b : Bool) → (b && not false) ≡ b
      and_true true = refl
      and_true false = refl

  -- what one record adds to what stays, as it is read
  abbrev pub StaysAlike : LogRecord → List LogRecord → Type 0
  StaysAlike l rest =
      own_records place (if stays ls rest l then l ∷ staying ls rest else staying ls rest)
      ≡ model_staying place.role read (own_by place l (record_case l.entry) ++ own_records place rest)

  one_stays : (l : LogRecord) (rest : List LogRecord) (b : Bool)
      → own_by place l (record_case l.entry) ≡ l.entry ∷ []
      → stays ls rest l ≡ b → model_stays place.role read (own_records place rest) l.entry ≡ b
      → own_records place (staying ls rest) ≡ model_staying place.role read (own_records place rest)
      → StaysAlike l rest
  unfolding own_records
  one_stays l rest b own is model behind =
      ap (λ k. own_records place (if k then l ∷ staying ls rest else staying ls rest)) is ∙ by_test b
      ∙ ap (λ k. if k then l.entry ∷ model_staying place.role read (own_records place rest) else
      model_staying place.role read (own_records place rest)) (sym model)
      ∙ ap (λ t. model_staying place.role read (t ++ own_records place rest)) (sym own)
    where
      by_test : (k : Bool) → own_records place (if k then l ∷ staying ls rest else staying ls rest)
          ≡ (if k then l.entry ∷ model_staying place.role read (own_records place rest) else model_staying
          place.role read (own_records place rest))
      by_test true = ap (λ t. t ++ own_records place (staying ls rest)) own ∙ ap (λ t. l.entry ∷ t) behind
      by_test false = behind

  none_stays : (l : LogRecord) (rest : List LogRecord) (b : Bool) → own_by place l (record_case l.entry) ≡ []
      → stays ls rest l ≡ b
      → own_records place (staying ls rest) ≡ model_staying place.role read (own_records place rest)
      → StaysAlike l rest
  unfolding own_records
  none_stays l rest b none is behind =
      ap (λ k. own_records place (if k then l ∷ staying ls rest else staying ls rest)) is ∙ by_test b
      ∙ ap (λ t. model_staying place.role read (t ++ own_records place rest)) (sym none)
    where
      by_test : (k : Bool)
          → own_records place (if k then l ∷ staying ls rest else staying ls rest)
          ≡ model_staying place.role read (own_records place rest)
      by_test true = ap (λ t. t ++ own_records place (staying ls rest)) none ∙ behind
      by_test false = behind

  case_stays_alike : (q : Option ProcessId) (d : Case) (r : Record) (rest : List LogRecord)
      → record_case r ≡ Some d
      → log_name (record { entry = r; parent = q }) ≡ Some (name_xid q (CaseBranch d))
      → IsSoundName q (CaseBranch d) → AllByRecursion (IsSound Coordinator) rest
      → own_records place (staying ls rest) ≡ model_staying place.role read (own_records place rest)
      → (b : Bool) → is_own place q d ≡ b → StaysAlike (record { entry = r; parent = q }) rest
  case_stays_alike q d r rest of named name h behind true own =
      let l : LogRecord = record { entry = r; parent = q } in
      let is : own_by place l (record_case r) ≡ r ∷ [] = ap (own_by place l) of
      ∙ ap (λ b. if b then r ∷ [] else foreign_to place.role q d r) own in
      one_stays l rest (case_stays read (Some d)) is
      (ap (stays_by ls rest) named ∙ case_as_model q d rest own name h)
      (model_case_stays place.role read (own_records place rest) r coordinates ∙ ap (case_stays read) of)
      behind
  case_stays_alike q d r rest of named name h behind false own =
      let l : LogRecord = record { entry = r; parent = q } in
      let none : own_by place l (record_case r) ≡ [] = ap (own_by place l) of
      ∙ ap (λ b. if b then r ∷ [] else foreign_to place.role q d r) own
      ∙ foreign_none place.role q d r coordinates in
      none_stays l rest (stays ls rest l) none refl behind

  record_stays : (r : Record) (q : Option ProcessId) (rest : List LogRecord)
      → IsSound Coordinator (record { entry = r; parent = q }) → AllByRecursion (IsSound Coordinator) rest
      → own_records place (staying ls rest) ≡ model_staying place.role read (own_records place rest)
      → StaysAlike (record { entry = r; parent = q }) rest
  record_stays (Opened n) q rest s h behind =
      one_stays (record { entry = Opened n; parent = q }) rest false refl refl (model_case_stays place.role
      read (own_records place rest) (Opened n) coordinates) behind
  record_stays (Collecting d ts) q rest s h behind = case_stays_alike q d (Collecting d ts) rest refl refl
      s.0 h behind (is_own place q d) refl
  record_stays (Prepare d ts) q rest s h behind = case_stays_alike q d (Prepare d ts) rest refl refl s.0 h
      behind (is_own place q d) refl
  record_stays (Commit d ts) q rest s h behind = case_stays_alike q d (Commit d ts) rest refl refl s.0 h
      behind (is_own place q d) refl
  record_stays (Abort d ts) q rest s h behind = case_stays_alike q d (Abort d ts) rest refl refl s.0 h behind
      (is_own place q d) refl
  record_stays (End d None) q rest s h behind = case_stays_alike q d (End d None) rest refl refl s h behind
      (is_own place q d) refl
  record_stays (End d (Some r)) q rest s h behind = case_stays_alike q d (End d (Some r)) rest refl refl s.0 h
      behind (is_own place q d) refl
  record_stays (Cleared d) q rest s h behind = case_stays_alike q d (Cleared d) rest refl refl s h behind
      (is_own place q d) refl
  record_stays (Prepared b ws) q rest s h behind = absurd s.1
  record_stays (Committed b) q rest s h behind = absurd s.1
  record_stays (RolledBack b) q rest s h behind = absurd s.1
  record_stays (Direct b ws) q rest s h behind = absurd s.1
  record_stays (HeurCommit b) q rest s h behind = absurd s.1
  record_stays (HeurRollback b) q rest s h behind = absurd s.1
  record_stays (Told b o) q rest s h behind = absurd s.1
  record_stays (Forgot b) q rest s h behind = absurd s.1
  record_stays (Base n) q rest s h behind = absurd s.1
  record_stays (Pair k v) q rest s h behind = absurd s.1

  pub staying_alike : (rest : List LogRecord) → AllByRecursion (IsSound Coordinator) rest
      → own_records place (staying ls rest) ≡ model_staying place.role read (own_records place rest)
  unfolding own_records staying
  staying_alike [] h = refl
  staying_alike (l ∷ rest) h = record_stays l.entry l.parent rest h.0 h.1 (staying_alike rest h.1)

-- The last Opened.

case_boot : (place : Place) (q : Option ProcessId) (d : Case) (r : Record) → IsCoordinator place.role
    → record_case r ≡ Some d → is_opened r ≡ false
    → ((b : ℕ) → boot_after b r ≡ b) → ReadsBoot place (record { entry = r; parent = q })
case_boot place q d r coordinates of none leaves = record {
  opened = λ is. absurd (cc);
  other = λ is b. ap (λ o. fold boot_after b (own_by place (record { entry = r; parent = q }) o)) of
      ∙ by_own b (is_own place q d);
}
  where
    by_own : (b : ℕ) (own : Bool) → fold boot_after b (if own then r ∷ [] else foreign_to place.role q d r)
        ≡ b
    by_own b true = leaves b
    by_own b false = ap (fold boot_after b) (foreign_none place.role q d r coordinates)

boot_read : (place : Place) (r : Record) (q : Option ProcessId) → IsCoordinator place.role
    → IsSound Coordinator (record { entry = r; parent = q })
    → ReadsBoot place (record { entry = r; parent = q })
boot_read place (Opened n) q c s = record { opened = λ is b. refl; other = λ is. absurd (cc) }
boot_read place (Collecting d ts) q c s = case_boot place q d (Collecting d ts) c refl refl (λ b. refl)
boot_read place (Prepare d ts) q c s = case_boot place q d (Prepare d ts) c refl refl (λ b. refl)
boot_read place (Commit d ts) q c s = case_boot place q d (Commit d ts) c refl refl (λ b. refl)
boot_read place (Abort d ts) q c s = case_boot place q d (Abort d ts) c refl refl (λ b. refl)
boot_read place (End d rep) q c s = case_boot place q d (End d rep) c refl refl (λ b. refl)
boot_read place (Cleared d) q c s = case_boot place q d (Cleared d) c refl refl (λ b. refl)
boot_read place (Prepared k ws) q c s = absurd s.1
boot_read place (Committed k) q c s = absurd s.1
boot_read place (RolledBack k) q c s = absurd s.1
boot_read place (Direct k ws) q c s = absurd s.1
boot_read place (HeurCommit k) q c s = absurd s.1
boot_read place (HeurRollback k) q c s = absurd s.1
boot_read place (Told k x) q c s = absurd s.1
boot_read place (Forgot k) q c s = absurd s.1
boot_read place (Base n) q c s = absurd s.1
boot_read place (Pair k v) q c s = absurd s.1

boots_read : (place : Place) (ls : List LogRecord) → IsCoordinator place.role
    → AllByRecursion (IsSound Coordinator) ls → AllByRecursion (ReadsBoot place) ls
boots_read place [] c h = tt
boots_read place (l ∷ ls) c h = (boot_read place l.entry l.parent c h.0, boots_read place ls c h.1)

no_data : (role : Role) (rs : List Record) → IsCoordinator role → data_records role rs ≡ []
no_data AtRoot rs h = refl
no_data (Below p) rs h = refl
no_data (AtLeaf p) rs h = absurd h

pub coordinators_read_trims : CoordinatorsReadTrims
unfolding front_of_trim last_opened trimmed boot_of
coordinators_read_trims place ls c sound opened =
    let rs = own_records place ls in
    own_append place (fold opened_after [] ls) (staying ls ls)
    ∙ ap (λ t. t ++ own_records place (staying ls ls))
    (opened_last place ls 0 (boots_read place ls c sound) opened)
    ∙ ap (λ t. Opened (fold boot_after 0 rs) ∷ t) (staying_alike place ls c sound ls sound)
    ∙ sym (append-nil (Opened (fold boot_after 0 rs) ∷ model_staying place.role rs rs))
    ∙ ap (λ t. (Opened (fold boot_after 0 rs) ∷ model_staying place.role rs rs) ++ t)
    (sym (no_data place.role rs c))
