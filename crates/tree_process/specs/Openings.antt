-- A process that has opened an empty log, and why one did not.
use Rattle.std.specs.Prelude.{◌≡◌, ◌≢◌, ⊤, ℕ, Option, Some, None, IsSomeAnd, List, []}
use Rattle.protocol.specs.declared.names.ProcessId.{ProcessId}
use Rattle.protocol.specs.declared.events.StepError.{StepError}
use Rattle.protocol_words.specs.step_error
use Rattle.protocol.specs.declared.trees.TreeProcess.{TreeProcess}
use Rattle.protocol.specs.Nodes.{Place, role_by}
use Rattle.log_store.specs.Stores.{MoreFailures}
use Rattle.log_records.specs.declared.opening.LogOpenError.{LogOpenError}
use Rattle.log_records.specs.declared.opening.LogOpenError.TheVariants as logs
use Rattle.kv_manager.specs.declared.manager.RestoreError.{RestoreError}
use Rattle.kv_manager.specs.declared.manager.RestoreError.TheVariants as restores
use Rattle.kv_manager.specs.declared.restart.RecordsError.TheVariants as restarts
use Rattle.process_state.specs.States.{CoreState}
use Rattle.process_state.specs.Opening.{IsOpenedProcess}
use Rattle.tree_process.specs.declared.opening.ProcessOpenError.{ProcessOpenError}
use Rattle.tree_process.specs.declared.opening.ProcessOpenError.TheVariants.{Memory, Device, Store}

-- the process that sits there has opened an empty log
pub record OpenedAt (place : Place) (s : CoreState) : Type 0 where
  pub failures : ℕ
  pub opened : IsOpenedProcess s place failures

-- the process of this entry of the tree has
abbrev pub OpenedAs : List TreeProcess → TreeProcess → CoreState → Type 0
OpenedAs tree e s = OpenedAt (record { me = e.id; role = role_by e.kind e.parent; tree = tree }) s

-- Refusals.

-- the device of an empty store failed: there is a store that has more failures, as a failure leaves one, or
-- whose count is at its top
pub record DeviceFailed {L : Type 0} (bytes : L → List ℕ) (failures : L → ℕ) (store : L) : Type 0 where
  pub empty : bytes store ≡ []
  pub left : L
  pub more : MoreFailures (failures store) (failures left)

-- there is no store, or bytes are in it
abbrev pub IsNoEmptyStore : {L : Type 0} → (L → List ℕ) → Option L → Type 0
IsNoEmptyStore bytes None = ⊤
IsNoEmptyStore bytes (Some store) = bytes store ≢ []

-- why a process did not open over its store, if it has one; want of memory may come at any time
abbrev pub ProcessNotOpened : {L : Type 0} → (L → List ℕ) → (L → ℕ) → ProcessId → Option L → ProcessOpenError
    → Type 0
ProcessNotOpened bytes failures p store Memory = ⊤
ProcessNotOpened bytes failures p store (Device q) = (q ≡ p) × IsSomeAnd store (DeviceFailed bytes failures)
ProcessNotOpened bytes failures p store (Store q) = (q ≡ p) × IsNoEmptyStore bytes store

-- the store that is handed back where its process did not open: its device failed in that, or did not; one
-- that had bytes is as it was
abbrev pub HandsStoreBack : {L : Type 0} → (L → ℕ) → L → L → ProcessOpenError → Type 0
HandsStoreBack failures old new Memory = failures new ≡ failures old
HandsStoreBack failures old new (Device p) = MoreFailures (failures old) (failures new)
HandsStoreBack failures old new (Store p) = new ≡ old

-- the number of an error
abbrev pub open_error_number : ProcessOpenError → ℕ
open_error_number Memory = 1
open_error_number (Device p) = 2
open_error_number (Store p) = 3

-- why this process did not open, where its log did not
abbrev pub error_of_log : ProcessId → LogOpenError → ProcessOpenError
error_of_log p logs.Memory = Memory
error_of_log p logs.Device = Device p
error_of_log p (logs.Damaged place) = Store p
error_of_log p logs.OldFormat = Store p

-- likewise, where its first record was not written
abbrev pub error_of_step : ProcessId → StepError → ProcessOpenError
error_of_step p step_error.Memory = Memory
error_of_step p e = Device p

-- likewise, where its key store was not made
abbrev pub error_of_manager : ProcessId → RestoreError → ProcessOpenError
error_of_manager p (restores.Log e) = error_of_log p e
error_of_manager p (restores.Records restarts.Memory) = Memory
error_of_manager p (restores.Records restarts.Device) = Device p
error_of_manager p (restores.Records e) = Store p
