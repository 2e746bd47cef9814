-- What the records of a log leave is tidy, and stands with them.
use Rattle.std.proofs.Common.{◌≡◌, ◌<◌, ◌+◌, ◌-◌, ◌^◌, arith, ℕ, Bool, true, false, not, ◌||◌, cond, List, [], ◌∷◌, ◌++◌, Option, Some, None, map, refl, sym, ap, subst, ◌∙◌, ◌⊎◌, inl, inr, append_assoc, drop, take, take-append-drop}
use Rattle.std.proofs.lemmas.List.{append-nil}
use Rattle.std.specs.Map.{lookup}
use Rattle.std.proofs.lemmas.Bool.{ltb-true}
use Rattle.std.specs.Prelude.{is_some, nat_lt, unwrap_or}
use Rattle.std.specs.List.{AllByRecursion}
use Rattle.xa_xid.specs.declared.xid.Xid.{Xid}
use Rattle.xa_tables.specs.declared.states.BranchState.TheVariants.{S0, S3}
use Rattle.xa_assoc.specs.declared.states.States.{States}
use Rattle.xa_assoc.specs.Answers.{state_at}
use Rattle.xa_assoc.specs.Restored.{Restored, restore_refusal, state_left, states_left}
use Rattle.protocol.specs.declared.records.BranchName.TheVariants.{Foreign}
use Rattle.protocol.specs.declared.records.LogRecord.{LogRecord}
use Rattle.protocol.specs.Store.{Data, writes_of as promised_of, data_of}
use Rattle.log_rules.specs.declared.order.seen.Promise.{Promise}
use Rattle.log_rules.specs.order.Orders.{SeenLog, found, is_open, in_doubt_by, names_key, opens, promised, promised_by, same}
use Rattle.key_lists.specs.declared.holders.Mode.TheVariants.{Exclusive}
use Rattle.key_lists.specs.Holders.{holds}
use Rattle.kv_locks.specs.Locks.{LockTable, holders_of}
use Rattle.kv_store.specs.Pairs.{keys_rise}
use Rattle.kv_store.specs.Versions.{VersionTable}
use Rattle.kv_store.specs.writes.Writes.{WriteTable, writes_of}
use Rattle.kv_state.specs.Folds.{AreData}
use Rattle.kv_state.specs.Replays.{AreCountedCommits, HoldPromises, seen_of}
use Rattle.kv_state.specs.Remembered.{LeavesNow}
use Rattle.kv_state.specs.declared.replayed.Replayed.{Replayed}
use Rattle.kv_state.proofs.Counting.{counted_front}
use Rattle.kv_state.specs.declared.fault.ReplayError.{ReplayError}
use Rattle.kv_state.specs.declared.fault.ReplayError.TheVariants.{Memory, Malformed, Exhausted}
use Rattle.kv_state.specs.Replays.{ReplayFails}
use Rattle.kv_state.proofs.Lawful.{lawful_of}
use Rattle.kv_state.proofs.Lookups.{same_is}
use Rattle.protocol.specs.declared.names.Kind.TheVariants.{Manager}
use Rattle.log_text.specs.Made.{frame_record}
use Rattle.log_writing.specs.Writes.{WritesRecord}
use Rattle.process_state.specs.States.{wrote}
use Rattle.log_records.specs.Sights.{Breaks, LogSight, LogState, LogRestarts, left_by, records_of}
use Rattle.kv_manager.specs.declared.restart.Ready.{Ready}
use Rattle.resource_manager.specs.declared.errors.RestartError.{RestartError}
use Rattle.resource_manager.specs.declared.errors.RestartError.TheVariants as restarts
use Rattle.kv_manager.specs.declared.restart.RecordsError.{RecordsError}
use Rattle.kv_manager.specs.declared.restart.RecordsError.TheVariants.{Device, Exhausted as ExhaustedRecords, Memory as MemoryRecords, Unfit}
use Rattle.xa_branch.specs.Cases.{DecisionTable}
use Rattle.kv_state.specs.Decisions.{KnowDecided, says_decided}
use Rattle.xa_branch.specs.Decisions.{decided_in}
use Rattle.kv_state.specs.Stores.{IsTidy, KeySight, Rebuilt, is_decided, is_let_go}
use Rattle.kv_state.specs.Ends.{known_of}
use Rattle.kv_manager.specs.Restarts.{FailsToRestart, IsReady, LeavesNone, LeavesStore, NotBegun, KvNotRebuilt, NotStored, StartsOver, error_of, next_boot, opened}
use Rattle.kv_manager.specs.Sights.{IsKvManager, IsLogged, KvSight, SaysDecided, are_ordered, doubt_of, has_records, logged}
use Rattle.kv_manager.proofs.Boots.{opened_counted, opened_ordered}
use Rattle.kv_manager.proofs.Fronts.{has_more, ordered_front}
use Rattle.kv_manager.proofs.Marks.{agrees_of, prepared_mark, state_by}
use Rattle.kv_manager.proofs.Turns.{data_behind, decided_behind, mark_behind}
use Rattle.resource_manager.specs.Restarting.{marked_state}
use Rattle.protocol.specs.Standings.{Decided, Finished, Mark, Promised, ToldOf, Unmarked, mark_at}

Live : Type 0
Live = List (Xid × Promise)

state_found : (es : List (Xid × Promise)) (x : Xid)
    → unwrap_or (lookup (same x) (states_left (map (λ e. (e.0, not (opens e.1.mark))) es))) S0
    ≡ state_by (lookup (same x) es)
state_found [] x = refl
state_found (e ∷ es) x = by_test (same x e.0) (state_found es x)
  where
    by_test : (b : Bool)
        → unwrap_or (lookup (same x) (states_left (map (λ e. (e.0, not (opens e.1.mark))) es))) S0
        ≡ state_by (lookup (same x) es)
        → unwrap_or (cond b (Some (state_left (not (opens e.1.mark))))
        (lookup (same x) (states_left (map (λ e. (e.0, not (opens e.1.mark))) es)))) S0
        ≡ state_by (cond b (Some e.1) (lookup (same x) es))
    by_test true h = refl
    by_test false h = h

pub restored_state : (s : SeenLog) (t : States) (x : Xid) → Restored (in_doubt_by s) t
    → state_at t x ≡ state_by (found s x)
restored_state s t x left = ap (λ bs. unwrap_or (lookup (same x) bs) S0) left.branches ∙ state_found s.live x

open_by_state : (o : Option Promise) → state_by o ≡ S3 → is_open o ≡ true
open_by_state None h = absurd (cc)
open_by_state (Some p) h = by_mark (opens p.mark) h
  where
    by_mark : (b : Bool) → state_left (not b) ≡ S3 → b ≡ true
    by_mark true e = refl
    by_mark false e = absurd (cc)

none_by_state : (o : Option Promise) → is_let_go (state_by o) ≡ true → promised_by o ≡ []
none_by_state None h = refl
none_by_state (Some p) h = by_mark (opens p.mark) h
  where
    by_mark : (b : Bool) → is_let_go (state_left (not b)) ≡ true → cond b p.writes [] ≡ []
    by_mark true e = absurd (cc)
    by_mark false e = refl

-- A key is of some open branch, or of none.

-- the key is of a branch of these, or of none
candidates : (s : SeenLog) (k : List ℕ) (es : List (Xid × Promise))
    → ((y : Xid) × names_key (promised s y) k ≡ true) ⊎ AllByRecursion
    (λ e. names_key (promised s e.0) k ≡ false) es
candidates s k [] = inr tt
candidates s k (e ∷ es) = by_test (names_key (promised s e.0) k) refl (candidates s k es)
  where
    by_test : (b : Bool) → names_key (promised s e.0) k ≡ b
        → ((y : Xid) × names_key (promised s y) k ≡ true) ⊎ AllByRecursion
        (λ e. names_key (promised s e.0) k ≡ false) es
        → ((y : Xid) × names_key (promised s y) k ≡ true) ⊎ AllByRecursion
        (λ e. names_key (promised s e.0) k ≡ false) (e ∷ es)
    by_test true h rest = inl (e.0, h)
    by_test false h rest = elim rest [
      | inl some ↦ inl some
      | inr none ↦ inr (h, none)
    ]

none_found : (s : SeenLog) (k : List ℕ) (es : List (Xid × Promise))
    → AllByRecursion (λ e. names_key (promised s e.0) k ≡ false) es
    → (y : Xid) → is_some (lookup (same y) es) ≡ true → names_key (promised s y) k ≡ false
none_found s k [] all y h = absurd (cc)
none_found s k (e ∷ es) all y h = by_test (same y e.0) refl h (none_found s k es all.1 y)
  where
    by_test : (b : Bool) → same y e.0 ≡ b → is_some (cond b (Some e.1) (lookup (same y) es)) ≡ true
        → (is_some (lookup (same y) es) ≡ true → names_key (promised s y) k ≡ false)
        → names_key (promised s y) k ≡ false
    by_test true t g rest = ap (λ z. names_key (promised s z) k) (same_is y e.0 t) ∙ all.0
    by_test false t g rest = rest g

nobody : (s : SeenLog) (k : List ℕ) → AllByRecursion (λ e. names_key (promised s e.0) k ≡ false) s.live
    → (y : Xid) → names_key (promised s y) k ≡ false
unfolding names_key
nobody s k all y = by_found (found s y) refl
  where
    by_found : (o : Option Promise) → found s y ≡ o → names_key (promised s y) k ≡ false
    by_found None e = ap (λ o. names_key (promised_by o) k) e
    by_found (Some p) e = none_found s k s.live all y (ap is_some e)

not_held : (s : SeenLog) (locks : LockTable) (x : Xid) (k : List ℕ) → HoldPromises s locks → promised s x ≡ []
    → holds (holders_of locks k) x ≡ false
unfolding names_key
not_held s locks x k kept none = elim (candidates s k s.live) [
  | inl some ↦ (ap (λ hs. holds hs x) (kept.held some.0 k some.1)
      ∙ by_test some.0 some.1 (same some.0 x) refl)
  | inr all ↦ ap (λ hs. holds hs x) (kept.free k (nobody s k all))
]
  where
    by_test : (y : Xid) → names_key (promised s y) k ≡ true → (b : Bool) → same y x ≡ b
        → holds (record { xid = y; mode = Exclusive } ∷ []) x ≡ false
    by_test y named true t =
        absurd (let never : true ≡ false = sym named ∙ ap (λ z. names_key (promised s z) k) (same_is y x t)
        ∙ ap (λ ws. names_key ws k) none in cc)
    by_test y named false t = ap (λ b. b || false) t

-- a branch is in S5 whose last record says that an operator decided it
says_marked : (m : Mark) → is_decided (marked_state m) ≡ says_decided m
says_marked Unmarked = refl
says_marked Promised = refl
says_marked Decided = refl
says_marked (ToldOf o) = refl
says_marked Finished = refl

-- what the records leave is tidy
pub tidy_restored : (ls : List LogRecord) (s : SeenLog) (t : States) (writes : WriteTable)
    (locks : LockTable) (versions : VersionTable)
    (decisions : DecisionTable) → seen_of ls ≡ Some s → Restored (in_doubt_by s) t
    → ((x : Xid) → writes_of writes x ≡ promised s x) → HoldPromises s locks → KnowDecided ls decisions
    → IsTidy
    (record { tables = t; writes = writes; locks = locks; versions = versions; decisions = decisions })
tidy_restored ls s t writes locks versions decisions read left promises kept decided = record {
  held = λ x k named. kept.held x k (ap (λ ws. names_key ws k) (sym (promises x)) ∙ named);
  written = λ x gone. promises x ∙ none x gone;
  free = λ x k gone. not_held s locks x k kept (none x gone);
  decided = λ x is. decided.known x (sym (says_marked (mark_at ls x))
      ∙ ap is_decided (sym ((agrees_of ls s read).states x) ∙ sym (restored_state s t x left)) ∙ is);
}
  where
    none : (x : Xid) → is_let_go (state_at t x) ≡ true → promised s x ≡ []
    none x gone = none_by_state (found s x) (ap is_let_go (sym (restored_state s t x left)) ∙ gone)

-- and of a decision
decided_behind_boot : (s : KvSight) (ls : List LogRecord) (boot : ℕ)
    → s.log.sight.kept.forced ≡ ls ++ opened boot ∷ []
    → s.log.sight.kept.unforced ≡ [] → (x : Xid)
    → decided_in (records_of s.log.sight.kept) x ≡ decided_in ls x
decided_behind_boot s ls boot forced unforced x =
    ap (λ us. decided_in (s.log.sight.kept.forced ++ us) x) unforced
    ∙ ap (λ rs. decided_in rs x) (append-nil s.log.sight.kept.forced ∙ forced)
    ∙ decided_behind ls (opened boot) x

-- a record of a boot changes no data
logged_behind_boot : (s : KvSight) (ls : List LogRecord) (boot : ℕ)
    → s.log.sight.kept.forced ≡ ls ++ opened boot ∷ []
    → s.log.sight.kept.unforced ≡ [] → logged s ≡ data_of ls
logged_behind_boot s ls boot forced unforced =
    ap (λ us. data_of (s.log.sight.kept.forced ++ us)) unforced
    ∙ ap data_of (append-nil s.log.sight.kept.forced ∙ forced)
    ∙ data_behind ls (opened boot)

-- and says nothing of a branch
marked_behind_boot : (s : KvSight) (ls : List LogRecord) (boot : ℕ)
    → s.log.sight.kept.forced ≡ ls ++ opened boot ∷ []
    → s.log.sight.kept.unforced ≡ [] → (x : Xid) → mark_at (records_of s.log.sight.kept) x ≡ mark_at ls x
marked_behind_boot s ls boot forced unforced x =
    ap (λ us. mark_at (s.log.sight.kept.forced ++ us) x) unforced
    ∙ ap (λ rs. mark_at rs x) (append-nil s.log.sight.kept.forced ∙ forced)
    ∙ mark_behind ls (opened boot) x

doubt_by : (o : Option Promise) → doubt_of (state_by o) ≡ state_by o
doubt_by None = refl
doubt_by (Some p) = by_mark (opens p.mark)
  where
    by_mark : (b : Bool) → doubt_of (state_left (not b)) ≡ state_left (not b)
    by_mark true = refl
    by_mark false = refl

records_booted : (s : KvSight) (ls : List LogRecord) (boot : ℕ)
    → s.log.sight.kept.forced ≡ ls ++ opened boot ∷ []
    → s.log.sight.kept.unforced ≡ [] → records_of s.log.sight.kept ≡ ls ++ opened boot ∷ []
records_booted s ls boot forced unforced =
    ap (λ us. s.log.sight.kept.forced ++ us) unforced ∙ append-nil s.log.sight.kept.forced ∙ forced

-- a manager that is what the records leave stands with them
logged_left : (s : KvSight) (ls : List LogRecord) → LeavesStore ls s.store s.boot → logged s ≡ data_of ls
    → ((x : Xid) → mark_at (records_of s.log.sight.kept) x ≡ mark_at ls x)
    → ((x : Xid) → decided_in (records_of s.log.sight.kept) x ≡ decided_in ls x)
    → has_records (records_of s.log.sight.kept) ≡ true → IsLogged s
logged_left s ls left is marks decisions begun = record {
  begun = begun;
  doubts = λ x. ap doubt_of (restored_state left.seen s.store.tables x left.tables)
      ∙ doubt_by (found left.seen x) ∙ (agrees_of ls left.seen left.read).states x
      ∙ sym (ap marked_state (marks x));
  are_data = subst (AreData s.store.versions) (sym is) left.stored;
  rise = ap (λ (d : Data). keys_rise d.pairs) is ∙ (lawful_of ls left.seen left.read).tied.rise;
  promises = λ x here. left.promises x
      ∙ sym ((lawful_of ls left.seen left.read).tied.tied x (open_by_state (found left.seen x)
      (sym (restored_state left.seen s.store.tables x left.tables) ∙ here)))
      ∙ ap (λ (d : Data). promised_of (Foreign x) d.promised) (sym is);
  marked = λ x here. marks x
      ∙ prepared_mark (mark_at ls x) (sym ((agrees_of ls left.seen left.read).states x)
      ∙ sym (restored_state left.seen s.store.tables x left.tables) ∙ here);
  decided = λ x here. record {
    says = ap says_decided (marks x) ∙ sym (says_marked (mark_at ls x))
        ∙ ap is_decided (sym ((agrees_of ls left.seen left.read).states x)
        ∙ sym (restored_state left.seen s.store.tables x left.tables) ∙ here);
    how = left.decided.each x ∙ sym (decisions x);
  };
}

-- what the records leave stands with a log of them and of the boot, all of it forced
kept_left : (s : KvSight) (ls : List LogRecord) → s.log.sight.form.kind ≡ Manager
    → LeavesStore ls s.store s.boot
    → s.log.sight.kept.forced ≡ ls ++ opened s.boot ∷ [] → s.log.sight.kept.unforced ≡ [] → IsKvManager s
kept_left s ls kind left forced unforced =
    record {
      kind = kind;
      counted = subst AreCountedCommits (sym (records_booted s ls s.boot forced unforced))
          (opened_counted ls s.boot left.counted);
      ordered = ap are_ordered (records_booted s ls s.boot forced unforced)
          ∙ opened_ordered ls left.seen s.boot left.read left.next;
      stands = λ _. logged_left s ls left (logged_behind_boot s ls s.boot forced unforced)
          (marked_behind_boot s ls s.boot forced unforced)
          (decided_behind_boot s ls s.boot forced unforced)
          (ap has_records (records_booted s ls s.boot forced unforced) ∙ has_more ls (opened s.boot));
    }

pub kept_restarted : (old log : LogState) (keep : ℕ) (r : Ready) → old.sight.form.kind ≡ Manager
    → IsReady (left_by old.sight keep) r
    → LogRestarts old log keep (frame_record r.opened ∷ [])
    → IsKvManager (record { store = r.store; log = log; boot = r.boot })
kept_restarted old log keep r kind ready made =
    kept_left (record { store = r.store; log = log; boot = r.boot }) (left_by old.sight keep)
    (ap (λ f. f.kind) made.form ∙ kind) ready.left
    (made.forced ∙ ap (λ l. left_by old.sight keep ++ l ∷ []) ready.spells) made.unforced

-- a log that was opened, with the record of the boot after its own
pub kept_over : (log new : LogState) (store : KeySight) (boot : ℕ) → log.sight.form.kind ≡ Manager
    → new.sight.form ≡ log.sight.form
    → StartsOver log (record { store = store; log = new; boot = boot })
    → IsKvManager (record { store = store; log = new; boot = boot })
kept_over log new store boot kind same starts =
    kept_left (record { store = store; log = new; boot = boot }) (records_of log.sight.kept)
    (ap (λ f. f.kind) same ∙ kind)
    starts.left starts.forced starts.unforced

-- the record of the boot was written after those of a log that was opened
pub starts_over : (log new : LogState) (store : KeySight) (boot : ℕ) → log.sight.failed ≡ false
    → LeavesStore (records_of log.sight.kept) store boot
    → WritesRecord log new (opened boot) true
    → StartsOver log (record { store = store; log = new; boot = boot })
starts_over log new store boot works left made = record {
  form = ap (λ (k : LogSight). k.form) made.sight;
  left = left;
  forced = ap (λ (k : LogSight). k.kept.forced) made.sight;
  unforced = ap (λ (k : LogSight). k.kept.unforced) made.sight;
  behind = ap (λ (k : LogSight). k.behind) made.sight;
  works = ap (λ (k : LogSight). k.failed) made.sight ∙ works;
  failures = ap (λ (k : LogSight). k.failures) made.sight;
}

-- or it was not
pub starts_none : (log new : LogState) (store : KeySight) (boot : ℕ) (e : RecordsError)
    → LeavesStore (records_of log.sight.kept) store boot
    → NotBegun log new boot e → LeavesNone log new e
starts_none log new store boot MemoryRecords left same = (tt, same)
starts_none log new store boot Device left broke =
    (boot, record { seen = left.seen; read = left.read; next = left.next }, broke)
starts_none log new store boot Unfit left never = absurd never
starts_none log new store boot ExhaustedRecords left never = absurd never

-- a record is written after room that was made
pub writes_behind : (log mid new : LogState) (l m : LogRecord) → mid.sight ≡ log.sight
    → l ≡ m → WritesRecord mid new l true
    → WritesRecord log new m true
writes_behind log mid new l m same is made = subst (λ k. WritesRecord log new k true) is (record {
  sight = made.sight ∙ ap (λ s. wrote s (record { entry = l.entry; is_forced = true } ∷ []) (l ∷ [])) same;
})

-- and so it fails
pub breaks_behind : (log mid new : LogState) (l m : LogRecord) → mid.sight ≡ log.sight
    → l ≡ m → Breaks mid new (l ∷ [])
    → Breaks log new (m ∷ [])
breaks_behind log mid new l m same is broke = subst (λ k. Breaks log new (k ∷ [])) is
    (subst (λ (s : LogSight). Breaks (record { sight = s; room = log.room })
    new (l ∷ [])) same (record {
      form = broke.form;
      appended = broke.appended;
      stand = broke.stand;
      no_less = broke.no_less;
      more = broke.more;
      leaves = broke.leaves;
      failed = broke.failed;
      cause = broke.cause;
    }))

-- the records of a log that was opened leave no manager
pub none_left : (log : LogState) (e : RecordsError)
    → KvNotRebuilt (records_of log.sight.kept) e → LeavesNone log log e
none_left log MemoryRecords why = (why, refl)
none_left log Device never = absurd never
none_left log Unfit why = (why, refl)
none_left log ExhaustedRecords why = (why, refl)

-- a log that stays the same but for its room leaves a manager that stands
pub kept_alike : (s : KvSight) (log : LogState) → IsKvManager s → log.sight ≡ s.log.sight
    → IsKvManager (record s { log = log })
kept_alike s log kept stays = record {
  kind = ap (λ (k : LogSight). k.form.kind) stays ∙ kept.kind;
  ordered = ap (λ (k : LogSight). are_ordered (records_of k.kept)) stays ∙ kept.ordered;
  counted = subst (λ (k : LogSight). AreCountedCommits (records_of k.kept)) (sym stays) kept.counted;
  stands = λ works. record {
    doubts = λ x. (stands works).doubts x
        ∙ ap (λ (k : LogSight). marked_state (mark_at (records_of k.kept) x)) (sym stays);
    begun = ap (λ (k : LogSight). has_records (records_of k.kept)) stays ∙ (stands works).begun;
    are_data = subst (λ (k : LogSight). AreData s.store.versions (data_of (records_of k.kept)))
        (sym stays) (stands works).are_data;
    rise = ap (λ (k : LogSight). keys_rise (data_of (records_of k.kept)).pairs) stays ∙ (stands works).rise;
    promises = λ x here. (stands works).promises x here
        ∙ ap (λ (k : LogSight). promised_of (Foreign x) (data_of (records_of k.kept)).promised) (sym stays);
    marked = λ x here. ap (λ (k : LogSight). mark_at (records_of k.kept) x) stays
        ∙ (stands works).marked x here;
    decided = λ x here. subst (λ (k : LogSight). SaysDecided (records_of k.kept) x (known_of s.store x))
        (sym stays) ((stands works).decided x here);
  };
}
  where
    stands : log.sight.failed ≡ false → IsLogged s
    stands works = kept.stands (ap (λ (k : LogSight). k.failed) (sym stays) ∙ works)

-- a log that did not restart leaves a manager that stands, or that has failed
pub kept_unstarted : (s : KvSight) (log : LogState) (keep : ℕ) (l : LogRecord) (e : RestartError)
    → IsKvManager s → are_ordered (left_by s.log.sight keep ++ l ∷ []) ≡ true
    → AreCountedCommits (left_by s.log.sight keep ++ l ∷ [])
    → FailsToRestart s.log log keep l e → IsKvManager (record s { log = log })
kept_unstarted s log keep l restarts.Memory kept behind counts stays = kept_alike s log kept stays
kept_unstarted s log keep l restarts.Device kept behind counts broke = record {
  kind = ap (λ f. f.kind) broke.form ∙ kept.kind;
  counted = subst AreCountedCommits (sym broke.stand)
      (counted_front (left_by s.log.sight keep ++ take broke.appended (l ∷ []))
      (drop broke.appended (l ∷ [])) (subst AreCountedCommits (sym whole) counts));
  ordered = ap are_ordered broke.stand
      ∙ ordered_front (left_by s.log.sight keep ++ take broke.appended (l ∷ []))
      (drop broke.appended (l ∷ [])) (ap are_ordered whole ∙ behind);
  stands = λ works. absurd (let never : true ≡ false = sym broke.failed ∙ works in cc);
}
  where
    whole : (left_by s.log.sight keep ++ take broke.appended (l ∷ [])) ++ drop broke.appended (l ∷ [])
        ≡ left_by s.log.sight keep ++ l ∷ []
    whole = append_assoc (left_by s.log.sight keep) (take broke.appended (l ∷ []))
        (drop broke.appended (l ∷ []))
        ∙ ap (λ ls. left_by s.log.sight keep ++ ls) (take-append-drop broke.appended (l ∷ []))
kept_unstarted s log keep l restarts.Exhausted kept behind counts never = absurd never

-- what replays and what is rebuilt of it
pub left_store : (ls : List LogRecord) (r : Replayed) (s : KeySight) (boot : ℕ) → LeavesNow ls r
    → Rebuilt s r.left.items r.writes r.locks r.data r.decisions → next_boot r.boot ≡ Some boot
    → LeavesStore ls s boot
left_store ls r s boot leaves rebuilt next = record {
  seen = leaves.seen;
  read = leaves.read;
  tables = subst (λ l. Restored l s.tables) leaves.in_doubt rebuilt.tables;
  stored = subst (λ v. AreData v (data_of ls)) (sym rebuilt.data_left) leaves.stored;
  counted = leaves.counted;
  promises = λ x. ap (λ w. writes_of w x) rebuilt.writes_left ∙ leaves.promises x;
  locks_held = subst (HoldPromises leaves.seen) (sym rebuilt.locks_left) leaves.locks_held;
  decided = subst (KnowDecided ls) (sym rebuilt.decided_left) leaves.decided;
  next = ap next_boot (sym leaves.boots) ∙ next;
}

-- what does not replay is not rebuilt
pub not_rebuilt : (ls : List LogRecord) (e : ReplayError) → ReplayFails ls e → KvNotRebuilt ls (error_of e)
not_rebuilt ls Memory why = tt
not_rebuilt ls Malformed why = inl why
not_rebuilt ls Exhausted why = inl why

-- nor is what makes no store
pub not_stored : (ls : List LogRecord) (s : SeenLog) (left : List (Xid × Bool)) (e : RecordsError)
    → seen_of ls ≡ Some s → left ≡ in_doubt_by s
    → NotStored left e → KvNotRebuilt ls e
not_stored ls s left MemoryRecords read is why = tt
not_stored ls s left Device read is never = never
not_stored ls s left Unfit read is why =
    inr (record { seen = s; read = read; refusal = why.0; refused = ap restore_refusal (sym is) ∙ why.1 })
not_stored ls s left ExhaustedRecords read is never = absurd never

-- a boot fits a record
pub boot_fits : (o : Option ℕ) (b : ℕ) → next_boot o ≡ Some b → b < 2 ^ 63
boot_fits None b h = subst (λ n. n < 2 ^ 63) (one_of h) (omega arith)
  where
    one_of : Some 1 ≡ Some b → 1 ≡ b
    one_of e = cc
boot_fits (Some a) b h = by_test (nat_lt a (2 ^ 63 - 1)) refl h
  where
    by_test : (t : Bool) → nat_lt a (2 ^ 63 - 1) ≡ t → cond t (Some (a + 1)) None ≡ Some b → b < 2 ^ 63
    by_test true is e =
        let within : a < 2 ^ 63 - 1 = ltb-true a (2 ^ 63 - 1) is in
        let next : a + 1 ≡ b = cc in
        subst (λ n. n < 2 ^ 63) next (omega arith)
    by_test false is e = absurd (cc)
