-- A process that goes on over the log that an earlier one left.
use Rattle.std.proofs.Common.{◌≡◌, ◌∙◌, inl, inr, ◌∷◌, ◌++◌, [], ℕ, List, Option, Some, None, refl, sym, ap, subst, arith}
use Rattle.std.proofs.lemmas.List.{append-nil}
use Rattle.xa_branch.specs.Branches.{in_doubt}
use Rattle.protocol.specs.declared.names.ProcessId.{ProcessId}
use Rattle.protocol.specs.declared.trees.TreeProcess.{TreeProcess}
use Rattle.protocol.specs.declared.events.Reaction.{Reaction}
use Rattle.protocol.specs.declared.names.Kind.TheVariants.{Coordinator, Manager}
use Rattle.protocol.specs.declared.records.LogRecord.{LogRecord}
use Rattle.protocol.specs.Nodes.{AtLeaf, Place, Role, role_by}
use Rattle.log_store.specs.Stores.{MoreFailures, SameStore}
use Rattle.log_records.specs.declared.opening.LogOpenError.{LogOpenError}
use Rattle.log_records.specs.declared.opening.LogOpenError.TheVariants as logs
use Rattle.log_text.specs.declared.form.LogForm.{LogForm}
use Rattle.log_text.specs.Forms.{log_form}
use Rattle.log_records.specs.Openings.{LogNotOpened, OpensLog}
use Rattle.log_records.specs.Sights.{Kept, LogSight, LogState, kept_of, left_by, records_of, whole_within}
use Rattle.process_state.specs.States.{CoreState, forced_sight}
use Rattle.process_state.specs.Restarting.{LeftSo, ProcessRestarts}
use Rattle.tree_state.specs.Worlds.{RestartsData}
use Rattle.coord_process.specs.States.{role_below}
use Rattle.resource_manager.specs.Data.{ManagerData, no_data}
use Rattle.resource_manager.specs.Sights.{ManagerSight, manager_data}
use Rattle.sub_branches.specs.declared.names.RebuildError.{RebuildError}
use Rattle.sub_branches.specs.declared.names.RebuildError.TheVariants as rebuilds
use Rattle.sub_branches.specs.Rebuilt.{AreFit}
use Rattle.sub_process.specs.Steps.{NotReopenedOver, PromisesLeft, left_before}
use Rattle.sub_process.proofs.Reopened.{left_is}
use Rattle.resource_manager.specs.Restarting.{IsRestarted, RestartsManager}
use Rattle.coord_process.specs.Reopened.{CoordinatorNotReopened}
use Rattle.coord_process.specs.declared.restarting.CoordinatorReopenError.{CoordinatorReopenError}
use Rattle.coord_process.specs.declared.restarting.CoordinatorReopenError.TheVariants as coordinators
use Rattle.kv_manager.specs.declared.manager.RestoreError.{RestoreError}
use Rattle.kv_manager.specs.declared.manager.RestoreError.TheVariants as restores
use Rattle.kv_manager.specs.declared.restart.RecordsError.{RecordsError}
use Rattle.kv_manager.specs.declared.restart.RecordsError.TheVariants as restarts
use Rattle.kv_manager.specs.Resources.{sight_of}
use Rattle.kv_manager.specs.Restarts.{RecordsHandBack, LeavesStore, NotRestored, Restarted, RestoredFrom, StartsOver, opened}
use Rattle.kv_manager.specs.Sights.{KvSight}
use Rattle.kv_manager.proofs.Restarted.{restarted}
use Rattle.tree_process.specs.Reopenings.{HandsLogBack, HoldsNoRestart, HoldsOn, NotLeft, ProcessNotReopened, Reopens, error_of_coordinator, error_of_log, error_of_manager, error_of_subordinate}

-- Managers.

-- a manager whose log has these records, all of them forced
abbrev pub before : LogState → KvSight → KvSight
before log s = record {
  store = s.store;
  log = record s.log { sight = forced_sight log.sight.form (records_of log.sight.kept) log.sight.failures };
  boot = s.boot;
}

pub all_left : (form : LogForm) (ls : List LogRecord) (failures : ℕ)
    → left_by (forced_sight form ls failures) 0 ≡ ls
unfolding whole_within
all_left form ls failures = append-nil ls

-- a manager over a log that was opened is the restart of that one
pub starts_over : (log : LogState) (s : KvSight) → StartsOver log s
    → RestartsManager (sight_of (before log s)) (sight_of s) 0
starts_over log s h =
    let ls = records_of log.sight.kept in
    let all = sym (all_left log.sight.form ls log.sight.failures) in
    let made : Restarted (before log s) s 0 (in_doubt s.store.tables.branches.branches) = record {
      left = subst (λ rs. LeavesStore rs s.store s.boot) all h.left;
      log = record {
        form = h.form;
        forced = h.forced ∙ ap (λ rs. rs ++ opened s.boot ∷ []) all;
        unforced = h.unforced;
        behind = h.behind;
        works = h.works;
        failures = h.failures;
      };
      gives = refl;
    } in
    restarted (before log s) s 0 (in_doubt s.store.tables.branches.branches) made

pub over_restarted : (log : LogState) (s : KvSight) → StartsOver log s → IsRestarted (sight_of s)
over_restarted log s h = record {
  old = sight_of (before log s);
  keep = 0;
  restarts = starts_over log s h;
}

module _ (me parent : ProcessId) (tree : List TreeProcess) (bytes : List ℕ)
    (forced failures : ℕ) (s : KvSight)
    (core : CoreState) (m : ManagerSight) (reaction : Reaction)
    (r : RestoredFrom me bytes forced failures s)
    (restarts : (old : ManagerSight) (all : ℕ) → RestartsManager old (sight_of s) all
    → (q : CoreState) → LeftSo q (record { me = me; role = AtLeaf parent; tree = tree }) old.log.failures
    → (keep : ℕ) → left_by q.log keep ≡ left_by old.log all → ProcessRestarts q keep core reaction)
    (promises : (old : ManagerSight) (all : ℕ) → RestartsManager old (sight_of s) all
    → PromisesLeft (left_by old.log all) m) where
  abbrev ls : List LogRecord
  ls = records_of r.log.sight.kept

  here : RestartsManager (sight_of (before r.log s)) (sight_of s) 0
  here = starts_over r.log s r.starts

  left : left_by (sight_of (before r.log s)).log 0 ≡ ls
  left = all_left r.log.sight.form ls r.log.sight.failures

  -- it is the restart of whatever manager left those records
  pub manager_left : Reopens (log_form me Manager) (record { me = me; role = AtLeaf parent; tree = tree })
      bytes forced failures
      core (manager_data m) reaction
  manager_left =
      let p : PromisesLeft ls m = subst (λ (rs : List LogRecord). PromisesLeft rs m) left
      (promises (sight_of (before r.log s)) 0 here) in
      record {
        log = r.log;
        opens = r.opens;
        restarts = λ old so keep is. restarts (sight_of (before r.log s)) 0 here old
            (record { place_is = so.place_is; failures_are = so.failures_are ∙ sym r.opens.failures_stay })
            keep (is ∙ sym left);
        holdings = record { writes = p.writes; held = p.held; known = p.known };
      }

-- Coordinators.

pub same_role : (parent : Option ProcessId) → role_below parent ≡ role_by Coordinator parent
same_role None = refl
same_role (Some p) = refl

no_data_there : (parent : Option ProcessId) (rs : List LogRecord) (d : ManagerData)
    → RestartsData (role_by Coordinator parent) rs d
no_data_there None rs d = tt
no_data_there (Some p) rs d = tt

-- it is the restart of whatever coordinator left those records
pub coordinator_left : (me : ProcessId) (parent : Option ProcessId) (tree : List TreeProcess) (bytes : List ℕ)
    (forced failures : ℕ) (log : LogState) (core : CoreState) (reaction : Reaction)
    → OpensLog (log_form me Coordinator) bytes forced failures log
    → ((old : CoreState) → LeftSo old (record { me = me; role = role_below parent; tree = tree })
    log.sight.failures
    → (keep : ℕ) → left_by old.log keep ≡ records_of log.sight.kept → ProcessRestarts old keep core reaction)
    → Reopens (log_form me Coordinator) (record { me = me; role = role_by Coordinator parent; tree = tree })
    bytes forced
    failures core no_data reaction
coordinator_left me parent tree bytes forced failures log core reaction opens restarts = record {
  log = log;
  opens = opens;
  restarts = λ old so keep is. restarts old
      (record {
        place_is = so.place_is
            ∙ ap (λ (r : Role). record { me = me; role = r; tree = tree }) (sym (same_role parent));
        failures_are = so.failures_are ∙ sym opens.failures_stay;
      })
      keep is;
  holdings = no_data_there parent (records_of log.sight.kept) no_data;
}

-- Refusals.

pub log_fails : {S : Type 0} (bytes : S → List ℕ) (forced failures : S → ℕ) (k : LogForm) (old new : S)
    (e : LogOpenError) → LogNotOpened bytes forced failures k old new e
    → NotLeft bytes forced failures k old (error_of_log e)
log_fails bytes forced failures k old new logs.Memory h = tt
log_fails bytes forced failures k old new logs.Device h = record { left = new; more = h.breaks.cause }
log_fails bytes forced failures k old new (logs.Damaged place) h = h.2
log_fails bytes forced failures k old new logs.OldFormat h = h.1

pub coordinator_fails : {S : Type 0} (bytes : S → List ℕ) (forced failures : S → ℕ)
    (place : Place) (old new : S)
    (opened left : LogState) (e : CoordinatorReopenError)
    → OpensLog (log_form place.me Coordinator) (bytes old) (forced old) (failures old) opened
    → left.sight.failures ≡ failures new
    → CoordinatorNotReopened place opened.sight left.sight e
    → NotLeft bytes forced failures (log_form place.me Coordinator) old (error_of_coordinator e)
coordinator_fails bytes forced failures place old new opened left coordinators.Memory opens to h = tt
coordinator_fails bytes forced failures place old new opened left coordinators.Device opens to h =
    let from : h.before.log.failures ≡ failures old =
    ap (λ (l : LogSight). l.failures) h.log_is ∙ opens.failures_stay in
    let until : h.behind.log.failures ≡ failures new = ap (λ (l : LogSight). l.failures) h.log_left ∙ to in
    let more : MoreFailures (failures old) (failures new) = omega (arith, from, until, h.broke.0.cause) in
    record { left = new; more = more }
coordinator_fails bytes forced failures place old new opened left coordinators.Exhausted opens to h =
    let beyond : HoldsNoRestart opened.sight = record {
      process = h.1.before;
      log_is = h.1.log_is;
      keep = h.1.keep;
      left = h.1.left;
      beyond = h.1.beyond;
    } in
    record { log = opened; opens = opens; why = beyond }

pub manager_fails : {S : Type 0} (bytes : S → List ℕ) (forced failures : S → ℕ) (p : ProcessId) (old new : S)
    (e : RestoreError) → NotRestored bytes forced failures p old new e
    → NotLeft bytes forced failures (log_form p Manager) old (error_of_manager e)
manager_fails bytes forced failures p old new (restores.Log e) h =
    log_fails bytes forced failures (log_form p Manager) old new e h
manager_fails bytes forced failures p old new (restores.Records restarts.Memory) h = tt
manager_fails bytes forced failures p old new (restores.Records restarts.Device) h =
    let to : h.left_as.sight.failures ≡ failures new = ap (λ (s : LogSight). s.failures) h.holds in
    let more : MoreFailures (failures old) (failures new) =
    omega (arith, h.opens.failures_stay, to, h.why.2.cause) in
    record { left = new; more = more }
manager_fails bytes forced failures p old new (restores.Records restarts.Unfit) h =
    record { log = h.opened_as; opens = h.opens; why = inl h.why.0 }
manager_fails bytes forced failures p old new (restores.Records restarts.Exhausted) h =
    record { log = h.opened_as; opens = h.opens; why = inr h.why.0 }

-- the records that the key store restarted over
read_before : (log : LogState) (s : KvSight) → StartsOver log s
    → left_before (sight_of s) ≡ records_of log.sight.kept
read_before log s h =
    left_is (sight_of (before log s)) (sight_of s) 0 (starts_over log s h)
    ∙ all_left log.sight.form (records_of log.sight.kept) log.sight.failures

pub subordinate_fails : {S : Type 0} (bytes : S → List ℕ) (forced failures : S → ℕ)
    (place : Place) (store : S)
    (s : KvSight) → RestoredFrom place.me (bytes store) (forced store) (failures store) s → (e : RebuildError)
    → NotReopenedOver place (sight_of s) e
    → ProcessNotReopened bytes forced failures (log_form place.me Manager) place store
    (error_of_subordinate e)
subordinate_fails bytes forced failures place store s r rebuilds.Memory h = inl tt
subordinate_fails bytes forced failures place store s r rebuilds.Unfit h = inr (
  refl,
  record {
    log = r.log;
    opens = r.opens;
    unfit = λ fit. h (subst (AreFit place) (sym (read_before r.log s r.starts)) fit);
  },
)
subordinate_fails bytes forced failures place store s r rebuilds.Exhausted h = absurd h

-- The store that is handed back.

same_store : {S : Type 0} (bytes : S → List ℕ) (forced failures : S → ℕ) (old new : S) → new ≡ old
    → SameStore bytes forced failures old new
same_store bytes forced failures old new e =
    record { bytes_stay = ap bytes e; forced_stays = ap forced e; failures_stay = ap failures e }

pub log_handed_back : {S : Type 0} (bytes : S → List ℕ) (forced failures : S → ℕ) (k : LogForm) (old new : S)
    (e : LogOpenError) → LogNotOpened bytes forced failures k old new e
    → HandsLogBack bytes forced failures k old new (error_of_log e)
log_handed_back bytes forced failures k old new logs.Memory h = inl h
log_handed_back bytes forced failures k old new logs.Device h = h.breaks.cause
log_handed_back bytes forced failures k old new (logs.Damaged place) h =
    inl (same_store bytes forced failures old new h.0)
log_handed_back bytes forced failures k old new logs.OldFormat h =
    inl (same_store bytes forced failures old new h.0)

-- a log that opened is in the store, with these records after its own
holds_on : {S : Type 0} (bytes : S → List ℕ) (forced failures : S → ℕ) (k : LogForm) (old new : S)
    (opened : LogState)
    (kept : Kept) (more : List LogRecord) → OpensLog k (bytes old) (forced old) (failures old) opened
    → kept_of k (bytes new) (forced new) ≡ kept → records_of kept ≡ records_of opened.sight.kept ++ more
    → HoldsOn bytes forced failures k old new
holds_on bytes forced failures k old new opened kept more opens is has =
    record { log = opened; opens = opens; appended = more; records = ap records_of is ∙ has }

-- a log that opened is there as it was
holds_same : {S : Type 0} (bytes : S → List ℕ) (forced failures : S → ℕ) (k : LogForm) (old new : S)
    (opened left : LogState) → OpensLog k (bytes old) (forced old) (failures old) opened
    → kept_of k (bytes new) (forced new) ≡ left.sight.kept → left.sight ≡ opened.sight
    → HoldsOn bytes forced failures k old new
holds_same bytes forced failures k old new opened left opens is same =
    holds_on bytes forced failures k old new opened opened.sight.kept [] opens
    (is ∙ ap (λ (l : LogSight). l.kept) same) (sym (append-nil (records_of opened.sight.kept)))

-- the same by the form of the log that was left
holds_left : {S : Type 0} (bytes : S → List ℕ) (forced failures : S → ℕ) (k : LogForm) (old new : S)
    (opened left : LogState) → OpensLog k (bytes old) (forced old) (failures old) opened
    → kept_of left.sight.form (bytes new) (forced new) ≡ left.sight.kept → left.sight ≡ opened.sight
    → HoldsOn bytes forced failures k old new
holds_left bytes forced failures k old new opened left opens is same =
    holds_same bytes forced failures k old new opened left opens
    (ap (λ f. kept_of f (bytes new) (forced new)) (sym (ap (λ (l : LogSight). l.form) same ∙ opens.form))
    ∙ is) same

pub coordinator_handed_back : {S : Type 0} (bytes : S → List ℕ) (forced failures : S → ℕ)
    (place : Place) (old new : S)
    (opened left : LogState) (e : CoordinatorReopenError)
    → OpensLog (log_form place.me Coordinator) (bytes old) (forced old) (failures old) opened
    → left.sight.failures ≡ failures new
    → kept_of left.sight.form (bytes new) (forced new) ≡ left.sight.kept
    → CoordinatorNotReopened place opened.sight left.sight e
    → HandsLogBack bytes forced failures (log_form place.me Coordinator) old new (error_of_coordinator e)
coordinator_handed_back bytes forced failures place old new opened left coordinators.Memory opens to is h =
    inr (holds_left bytes forced failures (log_form place.me Coordinator) old new opened left opens is h)
coordinator_handed_back bytes forced failures place old new opened left coordinators.Device opens to is h =
    let from : h.before.log.failures ≡ failures old =
    ap (λ (l : LogSight). l.failures) h.log_is ∙ opens.failures_stay in
    let until : h.behind.log.failures ≡ failures new = ap (λ (l : LogSight). l.failures) h.log_left ∙ to in
    omega (arith, from, until, h.broke.0.cause)
coordinator_handed_back bytes forced failures place old new opened left coordinators.Exhausted opens to is h =
    inr (holds_left bytes forced failures (log_form place.me Coordinator) old new opened left opens is h.0)

records_handed_back : {S : Type 0} (bytes : S → List ℕ) (forced failures : S → ℕ)
    (p : ProcessId) (old new : S)
    (e : RecordsError) → RecordsHandBack bytes forced failures p old new e
    → HandsLogBack bytes forced failures (log_form p Manager) old new (error_of_manager (restores.Records e))
records_handed_back bytes forced failures p old new restarts.Memory h =
    inr (holds_same bytes forced failures (log_form p Manager) old new h.opened_as h.left_as h.opens
    (ap (λ (l : LogSight). l.kept) (sym h.holds)) h.why.1)
records_handed_back bytes forced failures p old new restarts.Device h =
    let to : h.left_as.sight.failures ≡ failures new = ap (λ (s : LogSight). s.failures) h.holds in
    omega (arith, h.opens.failures_stay, to, h.why.2.cause)
records_handed_back bytes forced failures p old new restarts.Unfit h =
    inr (holds_same bytes forced failures (log_form p Manager) old new h.opened_as h.left_as h.opens
    (ap (λ (l : LogSight). l.kept) (sym h.holds)) h.why.1)
records_handed_back bytes forced failures p old new restarts.Exhausted h =
    inr (holds_same bytes forced failures (log_form p Manager) old new h.opened_as h.left_as h.opens
    (ap (λ (l : LogSight). l.kept) (sym h.holds)) h.why.1)

pub manager_handed_back : {S : Type 0} (bytes : S → List ℕ) (forced failures : S → ℕ)
    (p : ProcessId) (old new : S)
    (e : RestoreError) → NotRestored bytes forced failures p old new e
    → HandsLogBack bytes forced failures (log_form p Manager) old new (error_of_manager e)
manager_handed_back bytes forced failures p old new (restores.Log e) h =
    log_handed_back bytes forced failures (log_form p Manager) old new e h
manager_handed_back bytes forced failures p old new (restores.Records e) h =
    records_handed_back bytes forced failures p old new e h

-- the store of a manager that restarted holds its boot, too
pub subordinate_handed_back : {S : Type 0} (bytes : S → List ℕ) (forced failures : S → ℕ)
    (me : ProcessId) (old new : S)
    (s : KvSight) → RestoredFrom me (bytes old) (forced old) (failures old) s
    → kept_of s.log.sight.form (bytes new) (forced new) ≡ s.log.sight.kept → (e : RebuildError)
    → HandsLogBack bytes forced failures (log_form me Manager) old new (error_of_subordinate e)
subordinate_handed_back bytes forced failures me old new s r is e = by_error e
  where
    ls : List LogRecord
    ls = records_of r.log.sight.kept

    form : s.log.sight.form ≡ log_form me Manager
    form = r.starts.form ∙ r.opens.form

    all : records_of s.log.sight.kept ≡ ls ++ opened s.boot ∷ []
    all = ap (λ us. s.log.sight.kept.forced ++ us) r.starts.unforced ∙ append-nil s.log.sight.kept.forced
        ∙ r.starts.forced

    holds : HoldsOn bytes forced failures (log_form me Manager) old new
    holds = holds_on bytes forced failures (log_form me Manager) old new r.log s.log.sight.kept
        (opened s.boot ∷ []) r.opens
        (ap (λ f. kept_of f (bytes new) (forced new)) (sym form) ∙ is) all

    by_error : (e : RebuildError)
        → HandsLogBack bytes forced failures (log_form me Manager) old new (error_of_subordinate e)
    by_error rebuilds.Memory = inr holds
    by_error rebuilds.Unfit = inr holds
    by_error rebuilds.Exhausted = inr holds
