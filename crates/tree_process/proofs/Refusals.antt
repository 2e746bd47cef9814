-- A process that opens over an empty store is refused for memory or by its device alone.
use Rattle.std.proofs.Common.{◌≡◌, ◌∙◌, true, inl, inr, ℕ, Some, None, List, [], ◌∷◌, ◌++◌, refl, sym, ap, subst, arith}
use Rattle.protocol.specs.declared.names.Kind.TheVariants.{Manager}
use Rattle.protocol.specs.declared.names.ProcessId.{ProcessId}
use Rattle.protocol.specs.declared.events.StepError.{StepError}
use Rattle.protocol_words.specs.step_error
use Rattle.protocol.specs.declared.records.LogRecord.{LogRecord}
use Rattle.protocol.specs.Store.{stored}
use Rattle.protocol.specs.Records.{same_bytes}
use Rattle.log_text.specs.declared.form.LogForm.{LogForm}
use Rattle.log_text.specs.Forms.{log_form}
use Rattle.log_rules.specs.order.Logs.{Damaged, Whole, read_log}
use Rattle.log_rules.specs.order.Orders.{SeenLog, keys_once, nothing_seen}
use Rattle.log_store.specs.Stores.{MoreFailures}
use Rattle.log_records.specs.declared.opening.LogOpenError.{LogOpenError}
use Rattle.log_records.specs.declared.opening.LogOpenError.TheVariants as logs
use Rattle.log_records.specs.Openings.{LogNotOpened, is_old}
use Rattle.log_records.specs.Sights.{LogSight, LogState, records_of}
use Rattle.coord_process.specs.States.{CoordinatorNotOpened}
use Rattle.kv_state.specs.Replays.{AreMalformed, BreaksLimits, CountTooFar, seen_after, seen_of}
use Rattle.kv_manager.specs.declared.manager.RestoreError.{RestoreError}
use Rattle.kv_manager.specs.declared.manager.RestoreError.TheVariants as restores
use Rattle.kv_manager.specs.declared.restart.RecordsError.{RecordsError}
use Rattle.kv_manager.specs.declared.restart.RecordsError.TheVariants as restarts
use Rattle.kv_manager.specs.Restarts.{AreLastBoots, AreTooManyBranches, RecordsHandBack, KvNotRebuilt, NotRestored, next_boot}
use Rattle.tree_process.specs.Openings.{HandsStoreBack, ProcessNotOpened, error_of_log, error_of_manager, error_of_step}
use Rattle.tree_process.proofs.EmptyLogs.{no_records, nothing_read}

-- Logs.

whole_not_damaged : (ls : List LogRecord) (n place : ℕ) → Whole ls n ≡ Damaged place → ⊥
whole_not_damaged ls n place e = cc

none_is_old : is_old [] ≡ true → ⊥
unfolding same_bytes
none_is_old e = cc

empty_is_new : (bytes : List ℕ) → bytes ≡ [] → is_old bytes ≡ true → ⊥
empty_is_new bytes empty h = none_is_old (ap is_old (sym empty) ∙ h)

-- a log over an empty store is refused for memory or by its device
pub log_refused : {S : Type 0} (bytes : S → List ℕ) (forced failures : S → ℕ) (k : LogForm) (p : ProcessId)
    (old new : S) (e : LogOpenError) → bytes old ≡ []
    → LogNotOpened bytes forced failures k old new e
    → ProcessNotOpened bytes failures p (Some old) (error_of_log p e)
log_refused bytes forced failures k p old new logs.Memory empty h = tt
log_refused bytes forced failures k p old new logs.Device empty h =
    (refl, record { empty = empty; left = new; more = h.breaks.cause })
log_refused bytes forced failures k p old new (logs.Damaged place) empty h =
    absurd (whole_not_damaged [] 0 place
    (sym (nothing_read k) ∙ ap (read_log k) (sym empty) ∙ h.2))
log_refused bytes forced failures k p old new logs.OldFormat empty h =
    absurd (empty_is_new (bytes old) empty h.1)

-- the store that is handed back with that
pub log_handed_back : {S : Type 0} (bytes : S → List ℕ) (forced failures : S → ℕ)
    (k : LogForm) (p : ProcessId)
    (old new : S) (e : LogOpenError) → bytes old ≡ []
    → LogNotOpened bytes forced failures k old new e
    → HandsStoreBack failures old new (error_of_log p e)
log_handed_back bytes forced failures k p old new logs.Memory empty h = h.failures_stay
log_handed_back bytes forced failures k p old new logs.Device empty h = h.breaks.cause
log_handed_back bytes forced failures k p old new (logs.Damaged place) empty h = h.0
log_handed_back bytes forced failures k p old new logs.OldFormat empty h = h.0

-- Coordinators.

-- a coordinator over an empty log is refused likewise
pub coordinator_refused : {S : Type 0} (bytes : S → List ℕ) (failures : S → ℕ) (p : ProcessId) (old new : S)
    (opened left : LogState) (e : StepError) → bytes old ≡ []
    → opened.sight.failures ≡ failures old → left.sight.failures ≡ failures new
    → CoordinatorNotOpened opened left e
    → ProcessNotOpened bytes failures p (Some old) (error_of_step p e)
coordinator_refused bytes failures p old new opened left step_error.Memory empty at to h = tt
coordinator_refused bytes failures p old new opened left step_error.Device empty at to h =
    (refl, record { empty = empty; left = new; more = omega (arith, at, to, h.cause) })
coordinator_refused bytes failures p old new opened left e empty at to h = absurd h

-- the store that is handed back with that
pub coordinator_handed_back : {S : Type 0} (failures : S → ℕ) (p : ProcessId) (old new : S)
    (opened left : LogState) (e : StepError)
    → opened.sight.failures ≡ failures old → left.sight.failures ≡ failures new
    → CoordinatorNotOpened opened left e
    → HandsStoreBack failures old new (error_of_step p e)
coordinator_handed_back failures p old new opened left step_error.Memory at to h =
    sym to ∙ ap (λ (s : LogSight). s.failures) h ∙ at
coordinator_handed_back failures p old new opened left step_error.Device at to h =
    omega (arith, at, to, h.cause)
coordinator_handed_back failures p old new opened left e at to h = absurd h

-- Managers.

nothing_said : (s : SeenLog) → seen_of [] ≡ Some s → nothing_seen ≡ s
unfolding seen_after
nothing_said s e = cc

always_said : seen_of [] ≡ None → ⊥
unfolding seen_after
always_said e = cc

-- if nothing was seen no limit is broken
within_limits : BreaksLimits nothing_seen → ⊥
unfolding keys_once
within_limits b = b.breaks (record { few = omega arith; each = tt; once = refl })

-- An empty log is not refused for its records.

none_malformed : AreMalformed [] → ⊥
none_malformed (inl unseen) = always_said unseen
none_malformed (inr h) = within_limits (subst BreaksLimits (sym (nothing_said h.0 h.1)) h.2)

none_too_many : AreTooManyBranches [] → ⊥
none_too_many h =
    let e = rw (← nothing_said h.seen h.read) at h.refused in
    cc

no_front : (xs ys : List LogRecord) → [] ≡ xs ++ ys → xs ≡ []
no_front [] ys e = refl
no_front (x ∷ xs) ys e = absurd (cc)

none_too_far : CountTooFar [] → ⊥
unfolding stored
none_too_far h =
    let far = rw (no_front h.front h.behind h.parts) at h.far in
    omega arith

none_last : AreLastBoots [] → ⊥
none_last h =
    let spent : next_boot nothing_seen.boot ≡ None =
    ap (λ (s : SeenLog). next_boot s.boot) (nothing_said h.seen h.read) ∙ h.spent in
    cc

never_unfit : KvNotRebuilt [] restarts.Unfit → ⊥
never_unfit (inl malformed) = none_malformed malformed
never_unfit (inr many) = none_too_many many

never_exhausted : KvNotRebuilt [] restarts.Exhausted → ⊥
never_exhausted (inl far) = none_too_far far
never_exhausted (inr last) = none_last last

-- the log of an empty store leaves what no records leave
as_none : {S : Type 0} (bytes : S → List ℕ) (forced failures : S → ℕ) (p : ProcessId) (old new : S)
    (e : RecordsError)
    → bytes old ≡ [] → (h : RecordsHandBack bytes forced failures p old new e)
    → KvNotRebuilt (records_of h.opened_as.sight.kept) e → KvNotRebuilt [] e
as_none bytes forced failures p old new e empty h = subst (λ ls. KvNotRebuilt ls e)
    (no_records (log_form p Manager) (bytes old) (forced old) (failures old) h.opened_as empty h.opens)

-- a key store over an empty log is refused likewise
records_refused : {S : Type 0} (bytes : S → List ℕ) (forced failures : S → ℕ) (p : ProcessId)
    (old new : S) (e : RecordsError) → bytes old ≡ []
    → RecordsHandBack bytes forced failures p old new e
    → ProcessNotOpened bytes failures p (Some old) (error_of_manager p (restores.Records e))
records_refused bytes forced failures p old new restarts.Memory empty h = tt
records_refused bytes forced failures p old new restarts.Device empty h =
    let to : h.left_as.sight.failures ≡ failures new = ap (λ (s : LogSight). s.failures) h.holds in
    let more : MoreFailures (failures old) (failures new) =
    omega (arith, h.opens.failures_stay, to, h.why.2.cause) in
    (refl, record { empty = empty; left = new; more = more })
records_refused bytes forced failures p old new restarts.Unfit empty h =
    absurd (never_unfit (as_none bytes forced failures p old new restarts.Unfit empty h h.why.0))
records_refused bytes forced failures p old new restarts.Exhausted empty h = absurd
    (never_exhausted (as_none bytes forced failures p old new restarts.Exhausted empty h h.why.0))

-- a key store over an empty store is refused likewise
pub manager_refused : {S : Type 0} (bytes : S → List ℕ) (forced failures : S → ℕ) (p : ProcessId)
    (old new : S) (e : RestoreError) → bytes old ≡ []
    → NotRestored bytes forced failures p old new e
    → ProcessNotOpened bytes failures p (Some old) (error_of_manager p e)
manager_refused bytes forced failures p old new (restores.Log e) empty h =
    log_refused bytes forced failures (log_form p Manager) p old new e empty h
manager_refused bytes forced failures p old new (restores.Records e) empty h =
    records_refused bytes forced failures p old new e empty h

-- the store that is handed back with that
records_handed_back : {S : Type 0} (bytes : S → List ℕ) (forced failures : S → ℕ) (p : ProcessId)
    (old new : S) (e : RecordsError) → bytes old ≡ []
    → RecordsHandBack bytes forced failures p old new e
    → HandsStoreBack failures old new (error_of_manager p (restores.Records e))
records_handed_back bytes forced failures p old new restarts.Memory empty h =
    let to : h.left_as.sight.failures ≡ failures new = ap (λ (s : LogSight). s.failures) h.holds in
    sym to ∙ ap (λ (s : LogSight). s.failures) h.why.1 ∙ h.opens.failures_stay
records_handed_back bytes forced failures p old new restarts.Device empty h =
    let to : h.left_as.sight.failures ≡ failures new = ap (λ (s : LogSight). s.failures) h.holds in
    omega (arith, h.opens.failures_stay, to, h.why.2.cause)
records_handed_back bytes forced failures p old new restarts.Unfit empty h =
    absurd (never_unfit (as_none bytes forced failures p old new restarts.Unfit empty h h.why.0))
records_handed_back bytes forced failures p old new restarts.Exhausted empty h = absurd
    (never_exhausted (as_none bytes forced failures p old new restarts.Exhausted empty h h.why.0))

pub manager_handed_back : {S : Type 0} (bytes : S → List ℕ) (forced failures : S → ℕ) (p : ProcessId)
    (old new : S) (e : RestoreError) → bytes old ≡ []
    → NotRestored bytes forced failures p old new e
    → HandsStoreBack failures old new (error_of_manager p e)
manager_handed_back bytes forced failures p old new (restores.Log e) empty h =
    log_handed_back bytes forced failures (log_form p Manager) p old new e empty h
manager_handed_back bytes forced failures p old new (restores.Records e) empty h =
    records_handed_back bytes forced failures p old new e empty h
