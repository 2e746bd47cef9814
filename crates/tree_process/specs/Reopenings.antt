-- A process that goes on over the log that an earlier one left, and why none did.
use Rattle.std.specs.Prelude.{◌≡◌, ⊤, ◌⊎◌, ℕ, true, Option, Some, List, ◌++◌}
use Rattle.protocol.specs.declared.names.Kind.{Kind}
use Rattle.protocol.specs.declared.names.Kind.TheVariants.{Coordinator, Manager}
use Rattle.protocol.specs.declared.names.ProcessId.{ProcessId}
use Rattle.protocol.specs.declared.events.Reaction.{Reaction}
use Rattle.protocol.specs.declared.records.LogRecord.{LogRecord}
use Rattle.protocol.specs.declared.trees.TreeProcess.{TreeProcess}
use Rattle.protocol.specs.Nodes.{Place, role_by}
use Rattle.log_store.specs.Stores.{MoreFailures, SameStore}
use Rattle.log_rules.specs.order.Logs.{Damaged as DamagedLog, read_log}
use Rattle.log_records.specs.declared.opening.LogOpenError.{LogOpenError}
use Rattle.log_records.specs.declared.opening.LogOpenError.TheVariants as logs
use Rattle.log_text.specs.declared.form.LogForm.{LogForm}
use Rattle.log_text.specs.Forms.{log_form}
use Rattle.log_records.specs.Openings.{OpensLog, is_old}
use Rattle.log_records.specs.Sights.{LogSight, LogState, kept_of, left_by, records_of}
use Rattle.process_state.specs.States.{CoreState}
use Rattle.process_state.specs.Restarting.{CannotReopen, LeftSo, ProcessRestarts}
use Rattle.tree_state.specs.Worlds.{RestartsData}
use Rattle.resource_manager.specs.Data.{ManagerData}
use Rattle.kv_manager.specs.declared.manager.RestoreError.{RestoreError}
use Rattle.kv_manager.specs.declared.manager.RestoreError.TheVariants as restores
use Rattle.kv_manager.specs.declared.restart.RecordsError.TheVariants as restarts
use Rattle.kv_manager.specs.Restarts.{KvNotRebuilt}
use Rattle.coord_process.specs.declared.restarting.CoordinatorReopenError.{CoordinatorReopenError}
use Rattle.coord_process.specs.declared.restarting.CoordinatorReopenError.TheVariants as coordinators
use Rattle.sub_branches.specs.declared.names.RebuildError.{RebuildError}
use Rattle.sub_branches.specs.declared.names.RebuildError.TheVariants as rebuilds
use Rattle.sub_branches.specs.Rebuilt.{AreFit}
use Rattle.tree_process.specs.declared.reopening.ProcessReopenError.{ProcessReopenError}
use Rattle.tree_process.specs.declared.reopening.ProcessReopenError.TheVariants.{Memory, Device, Damaged, Unfit, OldFormat}

-- The process is the restart of whatever process left these records: the bytes are a log of them, and of
-- every process that sat here, and of whose log a crash left them, this is the restart, with what that shows.
-- A manager's branches in doubt have the writes that they promised.
pub record Reopens (p : LogForm) (place : Place) (bytes : List ℕ) (forced failures : ℕ) (s : CoreState)
    (values : ManagerData) (reaction : Reaction) : Type 0 where
  pub log : LogState
  pub opens : OpensLog p bytes forced failures log
  pub restarts : (old : CoreState) → LeftSo old place failures
      → (keep : ℕ) → left_by old.log keep ≡ records_of log.sight.kept → ProcessRestarts old keep s reaction
  pub holdings : RestartsData place.role (records_of log.sight.kept) values

-- the kind of the log of a process of this kind below this parent: the root's is a coordinator's
abbrev pub kind_by : Kind → Option ProcessId → Kind
kind_by Manager (Some p) = Manager
kind_by _ parent = Coordinator

-- the form of the log of the process of this entry
abbrev pub form_by : TreeProcess → LogForm
form_by e = log_form e.id (kind_by e.kind e.parent)

-- where the process of an entry of the tree sits
abbrev pub place_by : List TreeProcess → TreeProcess → Place
place_by tree e = record { me = e.id; role = role_by e.kind e.parent; tree = tree }

-- the process of an entry of the tree is the restart of whatever process left these records
abbrev pub ReopensAs : List TreeProcess → TreeProcess → List ℕ → ℕ → ℕ → CoreState → ManagerData → Reaction
    → Type 0
ReopensAs tree e bytes forced failures s values reaction =
    Reopens (form_by e) (place_by tree e) bytes forced failures s values reaction

-- Refusals.

-- the bytes are the log of records that leave no manager, or after which no number comes
pub record LeavesNoManager (p : LogForm) (bytes : List ℕ) (forced failures : ℕ) : Type 0 where
  pub log : LogState
  pub opens : OpensLog p bytes forced failures log
  pub why : KvNotRebuilt (records_of log.sight.kept) restarts.Unfit
      ⊎ KvNotRebuilt (records_of log.sight.kept) restarts.Exhausted

-- a process over this log cannot append to it what its restart would, where all its records are kept
pub record HoldsNoRestart (log : LogSight) : Type 0 where
  pub process : CoreState
  pub log_is : process.log ≡ log
  pub keep : ℕ
  pub left : left_by log keep ≡ records_of log.kept
  pub beyond : CannotReopen process keep

-- the bytes are the log of records after which no restart can write
pub record LeavesNoCoordinator (p : LogForm) (bytes : List ℕ) (forced failures : ℕ) : Type 0 where
  pub log : LogState
  pub opens : OpensLog p bytes forced failures log
  pub why : HoldsNoRestart log.sight

-- the bytes are the log of records that leave no process of this kind
abbrev pub LeavesNone : Kind → LogForm → List ℕ → ℕ → ℕ → Type 0
LeavesNone Coordinator p bytes forced failures = LeavesNoCoordinator p bytes forced failures
LeavesNone Manager p bytes forced failures = LeavesNoManager p bytes forced failures

-- the device failed: there is a store that has more failures, as a failure leaves one, or whose count is at
-- its top
pub record FailsOver {L : Type 0} (failures : L → ℕ) (store : L) : Type 0 where
  pub left : L
  pub more : MoreFailures (failures store) (failures left)

-- why no process goes on over the log in a store, whose records do not leave one of this kind; want of memory
-- may come at any time
abbrev pub NotLeft : {L : Type 0} → (L → List ℕ) → (L → ℕ) → (L → ℕ) → LogForm → L → ProcessReopenError
    → Type 0
NotLeft bytes forced failures p store Memory = ⊤
NotLeft bytes forced failures p store Device = FailsOver failures store
NotLeft bytes forced failures p store (Damaged place) = read_log p (bytes store) ≡ DamagedLog place
NotLeft bytes forced failures p store OldFormat = is_old (bytes store) ≡ true
NotLeft bytes forced failures p store Unfit = LeavesNone p.kind p (bytes store) (forced store)
    (failures store)

-- the bytes are the log of records that no subordinate which sits here can have written
pub record NoneWrote (p : LogForm) (place : Place) (bytes : List ℕ) (forced failures : ℕ) : Type 0 where
  pub log : LogState
  pub opens : OpensLog p bytes forced failures log
  pub unfit : AreFit place (records_of log.sight.kept) → ⊥

-- the refusal Unfit: no subordinate which sits here can have written the records of the log in a store
abbrev pub NotWritten : {L : Type 0} → (L → List ℕ) → (L → ℕ) → (L → ℕ) → LogForm → Place → L
    → ProcessReopenError → Type 0
NotWritten bytes forced failures p place store Unfit =
    NoneWrote p place (bytes store) (forced store) (failures store)
NotWritten bytes forced failures p place store e = ⊥

-- why no process goes on here over the log in a store: its records leave none, or it is a manager's and no
-- subordinate which sits here can have written them
abbrev pub ProcessNotReopened : {L : Type 0} → (L → List ℕ) → (L → ℕ) → (L → ℕ) → LogForm → Place → L
    → ProcessReopenError
    → Type 0
ProcessNotReopened bytes forced failures p place store e =
    NotLeft bytes forced failures p store e
    ⊎ ((p.kind ≡ Manager) × NotWritten bytes forced failures p place store e)

-- The store that is handed back with a refusal.

-- its log opened, and these records are in it: those that were read, and perhaps that of a boot after them
pub record HoldsOn {L : Type 0} (bytes : L → List ℕ) (forced failures : L → ℕ) (p : LogForm)
    (old new : L) : Type 0 where
  pub log : LogState
  pub opens : OpensLog p (bytes old) (forced old) (failures old) log
  pub appended : List LogRecord
  pub records : records_of (kept_of p (bytes new) (forced new)) ≡ records_of log.sight.kept ++ appended

-- it is as it was, or its records are in it; or its device failed
abbrev pub HandsLogBack : {L : Type 0} → (L → List ℕ) → (L → ℕ) → (L → ℕ) → LogForm → L → L
    → ProcessReopenError → Type 0
HandsLogBack bytes forced failures p old new Device = MoreFailures (failures old) (failures new)
HandsLogBack bytes forced failures p old new e =
    SameStore bytes forced failures old new ⊎ HoldsOn bytes forced failures p old new

-- the number of an error
abbrev pub reopen_error_number : ProcessReopenError → ℕ
reopen_error_number Memory = 1
reopen_error_number Device = 2
reopen_error_number (Damaged place) = 3
reopen_error_number Unfit = 4
reopen_error_number OldFormat = 5

-- why a process did not go on, where its log did not open
abbrev pub error_of_log : LogOpenError → ProcessReopenError
error_of_log logs.Memory = Memory
error_of_log logs.Device = Device
error_of_log (logs.Damaged place) = Damaged place
error_of_log logs.OldFormat = OldFormat

-- likewise, where no subordinate goes on
abbrev pub error_of_subordinate : RebuildError → ProcessReopenError
error_of_subordinate rebuilds.Memory = Memory
error_of_subordinate rebuilds.Unfit = Unfit
error_of_subordinate rebuilds.Exhausted = Unfit

-- likewise, where no coordinator goes on
abbrev pub error_of_coordinator : CoordinatorReopenError → ProcessReopenError
error_of_coordinator coordinators.Memory = Memory
error_of_coordinator coordinators.Device = Device
error_of_coordinator coordinators.Exhausted = Unfit

-- likewise, where its key store was not restored
abbrev pub error_of_manager : RestoreError → ProcessReopenError
error_of_manager (restores.Log e) = error_of_log e
error_of_manager (restores.Records restarts.Memory) = Memory
error_of_manager (restores.Records restarts.Device) = Device
error_of_manager (restores.Records e) = Unfit
