-- A key store after a restart: what the records say that its log keeps.
use Rattle.std.specs.Prelude.{◌≡◌, ◌+◌, ◌-◌, ◌^◌, ◌⊎◌, ⊤, ℕ, Bool, false, nat_lt, if◌then◌else◌, List, [], ◌∷◌, ◌++◌, Option, Some, None}
use Rattle.xa_codes.specs.declared.code.Code.{Code}
use Rattle.xa_xid.specs.declared.xid.Xid.{Xid}
use Rattle.xa_branch.specs.Branches.{in_doubt}
use Rattle.xa_assoc.specs.Restored.{Restored, restore_refusal}
use Rattle.protocol.specs.declared.records.LogRecord.{LogRecord}
use Rattle.protocol.specs.declared.records.Record.TheVariants.{Opened}
use Rattle.log_rules.specs.order.Orders.{SeenLog, in_doubt_by, promised}
use Rattle.protocol.specs.declared.names.Kind.TheVariants.{Manager}
use Rattle.log_text.specs.Made.{frame_record}
use Rattle.log_records.specs.Openings.{LogNotOpened, OpensLog}
use Rattle.log_records.specs.Sights.{Breaks, IsRecord, LogState, LogRestartBreaks, LogRestarts, left_by, log_state, records_of}
use Rattle.kv_store.specs.writes.Writes.{writes_of}
use Rattle.kv_state.specs.declared.fault.ReplayError.{ReplayError}
use Rattle.kv_state.specs.declared.fault.ReplayError.TheVariants as replays
use Rattle.kv_state.specs.Folds.{AreData}
use Rattle.protocol.specs.Store.{data_of}
use Rattle.kv_state.specs.Decisions.{KnowDecided}
use Rattle.kv_state.specs.Replays.{AreCountedCommits, AreMalformed, CountTooFar, HoldPromises, seen_of}
use Rattle.kv_state.specs.Stores.{KeySight}
use Rattle.resource_manager.specs.declared.errors.RestartError.{RestartError}
use Rattle.resource_manager.specs.declared.errors.RestartError.TheVariants as restarts
use Rattle.kv_manager.specs.declared.restart.RecordsError.{RecordsError}
use Rattle.kv_manager.specs.declared.restart.RecordsError.TheVariants.{Device, Exhausted, Memory, Unfit}
use Rattle.kv_manager.specs.declared.restart.Ready.{Ready}
use Rattle.kv_manager.specs.declared.manager.RestoreError.{RestoreError}
use Rattle.kv_manager.specs.declared.manager.RestoreError.TheVariants.{Log, Records}
use Rattle.kv_manager.specs.Sights.{KvSight, SameKv}
use Rattle.log_text.specs.Forms.{log_form}
use Rattle.protocol.specs.declared.names.ProcessId.{ProcessId}

-- the number of why no manager stands over records
abbrev pub records_number : RecordsError → ℕ
records_number Memory = 1
records_number Device = 2
records_number Unfit = 3
records_number Exhausted = 4

-- why records leave no manager
abbrev pub error_of : ReplayError → RecordsError
error_of replays.Memory = Memory
error_of replays.Malformed = Unfit
error_of replays.Exhausted = Exhausted

-- the boot after the last one, while it fits a record
abbrev pub next_boot : Option ℕ → Option ℕ
next_boot None = Some 1
next_boot (Some b) = if nat_lt b (2 ^ 63 - 1) then Some (b + 1) else None

-- the record of a boot
abbrev pub opened : ℕ → LogRecord
opened b = record { entry = Opened b; parent = None }

-- what the records of a log leave: a manager that is not open, with the branches in doubt in the order of
-- their promises, the data that the records make, of the branches that are prepared their writes and their
-- locks, and what operators decided; and the next boot; the data of each front of the records count fewer
-- than 2^63 commits
pub record LeavesStore (ls : List LogRecord) (s : KeySight) (boot : ℕ) : Type 0 where
  pub seen : SeenLog
  pub read : seen_of ls ≡ Some seen
  pub tables : Restored (in_doubt_by seen) s.tables
  pub stored : AreData s.versions (data_of ls)
  pub counted : AreCountedCommits ls
  pub promises : (x : Xid) → writes_of s.writes x ≡ promised seen x
  pub locks_held : HoldPromises seen s.locks
  pub decided : KnowDecided ls s.decisions
  pub next : next_boot seen.boot ≡ Some boot

-- more branches are in doubt than a manager holds, or one of them twice
pub record AreTooManyBranches (ls : List LogRecord) : Type 0 where
  pub seen : SeenLog
  pub read : seen_of ls ≡ Some seen
  pub refusal : Code
  pub refused : restore_refusal (in_doubt_by seen) ≡ Some refusal

-- no boot comes after the last one
pub record AreLastBoots (ls : List LogRecord) : Type 0 where
  pub seen : SeenLog
  pub read : seen_of ls ≡ Some seen
  pub spent : next_boot seen.boot ≡ None

-- why what replayed makes no store
abbrev pub NotStored : List (Xid × Bool) → RecordsError → Type 0
NotStored left Memory = ⊤
NotStored left Device = ⊥
NotStored left Unfit = (refusal : Code) × (restore_refusal left ≡ Some refusal)
NotStored left Exhausted = ⊥

-- why records leave no manager; want of memory may come at any time
abbrev pub KvNotRebuilt : List LogRecord → RecordsError → Type 0
KvNotRebuilt ls Memory = ⊤
KvNotRebuilt ls Device = ⊥
KvNotRebuilt ls Unfit = AreMalformed ls ⊎ AreTooManyBranches ls
KvNotRebuilt ls Exhausted = CountTooFar ls ⊎ AreLastBoots ls

-- all is made that a manager restarts as where these records are left: with the branches in doubt, and the
-- frame of its boot
pub record IsReady (ls : List LogRecord) (r : Ready) : Type 0 where
  pub left : LeavesStore ls r.store r.boot
  pub listed : r.in_doubt.items ≡ in_doubt r.store.tables.branches.branches
  pub spells : frame_record r.opened ≡ opened r.boot
  pub sound : IsRecord Manager (frame_record r.opened)

-- Restart.

-- a manager restarted, after a crash that kept N unforced bytes: the store is what the records that are
-- left leave, the log has these and the next boot, all forced, and these branches are in doubt
pub record Restarted (old new : KvSight) (keep : ℕ) (given : List Xid) : Type 0 where
  pub left : LeavesStore (left_by old.log.sight keep) new.store new.boot
  pub log : LogRestarts old.log new.log keep (opened new.boot ∷ [])
  pub gives : given ≡ in_doubt new.store.tables.branches.branches

-- why a manager is not made ready to restart where its own records are left, which are never refused
abbrev pub NotReady : List LogRecord → RestartError → Type 0
NotReady ls restarts.Memory = ⊤
NotReady ls restarts.Device = ⊥
NotReady ls restarts.Exhausted = AreLastBoots ls

-- a log did not restart: nothing changed, or the device failed
abbrev pub FailsToRestart : LogState → LogState → ℕ → LogRecord → RestartError → Type 0
FailsToRestart old new keep l restarts.Memory = new.sight ≡ old.sight
FailsToRestart old new keep l restarts.Device = LogRestartBreaks old new keep (l ∷ [])
FailsToRestart old new keep l restarts.Exhausted = ⊥

-- this boot comes after the last one of these records
pub record ComesNext (ls : List LogRecord) (boot : ℕ) : Type 0 where
  pub seen : SeenLog
  pub read : seen_of ls ≡ Some seen
  pub next : next_boot seen.boot ≡ Some boot

-- the device failed under a restart: it left the log as such a failure does, with the record of the next boot
-- or without; and nothing else changed
pub record KvRestartFails (old new : KvSight) (keep : ℕ) : Type 0 where
  pub next : ℕ
  pub comes : ComesNext (left_by old.log.sight keep) next
  pub log : LogRestartBreaks old.log new.log keep (opened next ∷ [])
  pub store : new.store ≡ old.store
  pub boot : new.boot ≡ old.boot

-- a manager did not restart: nothing changed, also where no boot comes after the last one; or the device
-- failed, and the manager has failed
abbrev pub KvNotRestarted : KvSight → KvSight → ℕ → RestartError → Type 0
KvNotRestarted old new keep restarts.Memory = SameKv old new
KvNotRestarted old new keep restarts.Device = KvRestartFails old new keep
KvNotRestarted old new keep restarts.Exhausted = AreLastBoots (left_by old.log.sight keep) × SameKv old new

-- Restoring from a store.

-- a manager over a log that was opened: the store is what the log's records leave, and the log has these and
-- the next boot, all forced
pub record StartsOver (log : LogState) (s : KvSight) : Type 0 where
  pub form : s.log.sight.form ≡ log.sight.form
  pub left : LeavesStore (records_of log.sight.kept) s.store s.boot
  pub forced : s.log.sight.kept.forced ≡ records_of log.sight.kept ++ opened s.boot ∷ []
  pub unforced : s.log.sight.kept.unforced ≡ []
  pub behind : s.log.sight.behind ≡ 0
  pub works : s.log.sight.failed ≡ false
  pub failures : s.log.sight.failures ≡ log.sight.failures

-- the manager of this process over the log of these bytes
pub record RestoredFrom (process : ProcessId) (bytes : List ℕ) (forced failures : ℕ)
    (s : KvSight) : Type 0 where
  pub log : LogState
  pub opens : OpensLog (log_form process Manager) bytes forced failures log
  pub starts : StartsOver log s

-- the record of a boot was not written: nothing changed, or the device failed under it
abbrev pub NotBegun : LogState → LogState → ℕ → RecordsError → Type 0
NotBegun old new boot Memory = new.sight ≡ old.sight
NotBegun old new boot Device = Breaks old new (opened boot ∷ [])
NotBegun old new boot e = ⊥

-- the log was opened, and its records leave no manager; or the device failed under the record of the boot
abbrev pub LeavesNone : LogState → LogState → RecordsError → Type 0
LeavesNone old new Device = (boot : ℕ) × ComesNext (records_of old.sight.kept) boot
    × Breaks old new (opened boot ∷ [])
LeavesNone old new e = KvNotRebuilt (records_of old.sight.kept) e × (new.sight ≡ old.sight)

-- a store whose log was opened is handed back
pub record RecordsHandBack {S : Type 0} (bytes : S → List ℕ) (forced failures : S → ℕ) (process : ProcessId)
    (old new : S) (e : RecordsError) : Type 0 where
  pub opened_as : LogState
  pub opens : OpensLog (log_form process Manager) (bytes old) (forced old) (failures old) opened_as
  pub left_as : LogState
  pub holds : left_as.sight
      ≡ (log_state (log_form process Manager) (bytes new) (forced new) (failures new) 0
      left_as.sight.failed).sight
  pub why : LeavesNone opened_as left_as e

-- why no manager is restored, and what store is handed back
abbrev pub NotRestored : {S : Type 0} → (S → List ℕ) → (S → ℕ) → (S → ℕ) → ProcessId → S → S
    → RestoreError → Type 0
NotRestored bytes forced failures p old new (Log e) =
    LogNotOpened bytes forced failures (log_form p Manager) old new e
NotRestored bytes forced failures p old new (Records e) = RecordsHandBack bytes forced failures p old new e
