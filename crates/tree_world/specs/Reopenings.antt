-- A tree that opens over the logs that an earlier run left, and why it does not.
use Rattle.std.specs.Prelude.{◌≡◌, ⊤, ◌⊎◌, ℕ, true, if◌then◌else◌, Option, Some, None, is_some, List, [], ◌∷◌, ◌++◌, map}
use Rattle.std.specs.List.{flat_map}
use Rattle.protocol.specs.declared.names.ProcessId.{ProcessId}
use Rattle.protocol.specs.declared.records.LogRecord.{LogRecord}
use Rattle.protocol.specs.declared.trees.TreeProcess.{TreeProcess}
use Rattle.protocol.specs.Names.{same_process}
use Rattle.protocol.specs.Nodes.{Place, is_listed, place_of}
use Rattle.protocol.specs.declared.messages.Envelope.{Envelope}
use Rattle.protocol.specs.declared.events.JournalEntry.{JournalEntry}
use Rattle.protocol.specs.declared.events.Happening.TheVariants.{Restart}
use Rattle.protocol.specs.declared.events.Reaction.{Reaction}
use Rattle.log_rules.specs.order.Logs.{LogReading, Whole, Damaged, read_as, read_log}
use Rattle.log_store.specs.Stores.{MoreFailures, SameStore}
use Rattle.log_records.specs.Sights.{kept_of, left_by, records_of}
use Rattle.process_state.specs.States.{CoreState}
use Rattle.process_state.specs.Restarting.{CannotReopen}
use Rattle.tree_state.specs.Worlds.{step_entry}
use Rattle.kv_manager.specs.Restarts.{KvNotRebuilt}
use Rattle.kv_manager.specs.declared.restart.RecordsError.TheVariants as restarts
use Rattle.sub_branches.specs.Rebuilt.{AreFit}
use Rattle.proof_reopened.specs.Reopened.{RestartsOver}
use Rattle.tree_process.specs.Reopenings.{FailsOver, form_by}
use Rattle.tree_world.specs.Nodes.{NodesSight}
use Rattle.tree_world.specs.Openings.{store_of}
use Rattle.tree_world.specs.OwnNames.{fault_of}
use Rattle.log_records.specs.declared.migrating.MigrateError.{MigrateError}
use Rattle.log_records.specs.declared.migrating.MigrateError.TheVariants as migrations
use Rattle.tree_process.specs.declared.reopening.ProcessReopenError.{ProcessReopenError}
use Rattle.tree_process.specs.declared.reopening.ProcessReopenError.TheVariants as nodes
use Rattle.tree_world.specs.declared.reopening.TreeReopenError.{TreeReopenError}
use Rattle.tree_world.specs.declared.reopening.TreeReopenError.TheVariants.{Memory, Device, Damaged as DamagedError}

-- the records that were read; of a damaged log none
abbrev pub records_read : LogReading → List LogRecord
records_read (Whole ls torn) = ls
records_read (Damaged place) = []

-- the log of each process of the tree, as the bytes of the store at its place read by the format that they
-- name
abbrev pub logs_in : {L : Type 0} → (L → List ℕ) → List TreeProcess → List L → ProcessId → List LogRecord
logs_in bytes [] stores q = []
logs_in bytes (e ∷ es) [] q = []
logs_in bytes (e ∷ es) (s ∷ ss) q =
    if same_process e.id q then records_read (read_as e.id e.kind (bytes s)) else logs_in bytes es ss q

-- the log of each process of the tree, as the bytes of the store at its place read by the second format
abbrev pub ready_logs : {L : Type 0} → (L → List ℕ) → List TreeProcess → List L → ProcessId → List LogRecord
ready_logs bytes [] stores q = []
ready_logs bytes (e ∷ es) [] q = []
ready_logs bytes (e ∷ es) (s ∷ ss) q =
    if same_process e.id q then records_read (read_log (form_by e) (bytes s)) else ready_logs bytes es ss q

-- each of these processes of the tree restarted over the store at its place, one after another: these
-- messages were sent in it, and these steps entered
pub record AreRestarted {L : Type 0} (bytes : L → List ℕ) (tree listed : List TreeProcess) (stores : List L)
    (ns : NodesSight) (sent : List Envelope) (made : List JournalEntry) : Type 0 where
  pub failed : ProcessId → ℕ
  pub opening : ProcessId → Reaction
  pub nodes : (q : ProcessId) (c : CoreState) → ns.node_at q ≡ Some c
      → RestartsOver tree q (ready_logs bytes listed stores q) (failed q) c (ns.data_at q) (opening q)
  pub listed_are : (q : ProcessId) → is_some (ns.node_at q) ≡ is_listed listed q
  pub sent_by : sent ≡ flat_map (λ e. (opening e.id).messages) listed
  pub made_so : made ≡ map (λ e. step_entry e.id (Restart 0) (opening e.id)) listed

-- Refusals.

-- this process's fault, if its log has one; else the first of the others
abbrev pub fault_or : ProcessId → Option ℕ → Option (ProcessId × ℕ) → Option (ProcessId × ℕ)
fault_or p (Some place) more = Some (p, place)
fault_or p None more = more

-- the first of these processes of the tree whose log has a fault, and its place; each log is in the store at
-- the place of its process
abbrev pub faults_from : {L : Type 0} → (L → List ℕ) → List TreeProcess → List TreeProcess → List L
    → Option (ProcessId × ℕ)
faults_from bytes tree [] stores = None
faults_from bytes tree (e ∷ es) [] = None
faults_from bytes tree (e ∷ es) (s ∷ ss) =
    fault_or e.id (fault_of tree e (bytes s)) (faults_from bytes tree es ss)

-- the first process, in the order of the tree, whose log has a fault, and the place of the first one in it
abbrev pub first_fault : {L : Type 0} → (L → List ℕ) → List TreeProcess → List L → Option (ProcessId × ℕ)
first_fault bytes tree stores = faults_from bytes tree tree stores

-- there is no store, or its device failed: there is one that has more failures, or whose count is at its top
abbrev pub FailsIn : {L : Type 0} → (L → ℕ) → Option L → Type 0
FailsIn failures None = ⊤
FailsIn failures (Some store) = FailsOver failures store

-- no process that sits there restarts over these records: a process of which a crash left them cannot append
-- what its restart would; or they leave no manager, or no number comes after them; or no subordinate can have
-- written them
abbrev pub NoneRestarts : Place → List LogRecord → Type 0
NoneRestarts place ls =
    ((old : CoreState) × (keep : ℕ) × (left_by old.log keep ≡ ls) × CannotReopen old keep)
    ⊎ KvNotRebuilt ls restarts.Unfit ⊎ KvNotRebuilt ls restarts.Exhausted ⊎ (AreFit place ls → ⊥)

-- the process is listed, and no process restarts over the records in its log
pub record NoneRestartsOver {L : Type 0} (bytes : L → List ℕ) (tree : List TreeProcess) (stores : List L)
    (p : ProcessId) : Type 0 where
  pub listed : is_listed tree p ≡ true
  pub none : NoneRestarts (place_of tree p) (logs_in bytes tree stores p)

-- Why a tree was not opened over the logs in these stores. Want of memory may come at any time. The device of
-- a process's store failed, or there is no store for it. The first fault in the logs is this one; or no log
-- has a fault, and yet no process restarts over the log of one, which is then said of its header: no run
-- leaves such a log.
abbrev pub TreeNotReopened : {L : Type 0} → (L → List ℕ) → (L → ℕ) → List TreeProcess → List L
    → TreeReopenError → Type 0
TreeNotReopened bytes failures tree stores Memory = ⊤
TreeNotReopened bytes failures tree stores (Device p) =
    (is_listed tree p ≡ true) × FailsIn failures (store_of tree stores p)
TreeNotReopened bytes failures tree stores (DamagedError p place) =
    (first_fault bytes tree stores ≡ Some (p, place))
    ⊎ ((first_fault bytes tree stores ≡ None) × (place ≡ 0) × NoneRestartsOver bytes tree stores p)

-- The stores that are handed back.

-- these records are in the log of the process of this entry, in the second format, and perhaps those of a
-- restart after them
pub record HoldsOn {L : Type 0} (bytes : L → List ℕ) (forced : L → ℕ) (e : TreeProcess) (ls : List LogRecord)
    (store : L) : Type 0 where
  pub appended : List LogRecord
  pub records : records_of (kept_of (form_by e) (bytes store) (forced store)) ≡ ls ++ appended

-- a store keeps the log of the process of this entry: it is as it was, or the records that its bytes read as
-- are in it
abbrev pub KeepsLog : {L : Type 0} → (L → List ℕ) → (L → ℕ) → (L → ℕ) → TreeProcess → L → L → Type 0
KeepsLog bytes forced failures e old new =
    SameStore bytes forced failures old new
    ⊎ HoldsOn bytes forced e (records_read (read_as e.id e.kind (bytes old))) new

-- the store of the process of this entry is handed back: its device failed, or it keeps its log
abbrev pub IsReturned : {L : Type 0} → (L → List ℕ) → (L → ℕ) → (L → ℕ) → TreeProcess → L → L
    → TreeReopenError → Type 0
IsReturned bytes forced failures e old new (Device p) =
    ((e.id ≡ p) × MoreFailures (failures old) (failures new)) ⊎ KeepsLog bytes forced failures e old new
IsReturned bytes forced failures e old new why = KeepsLog bytes forced failures e old new

-- the stores that are handed back if a tree is not opened again, each at its place
abbrev pub AreReturned : {L : Type 0} → (L → List ℕ) → (L → ℕ) → (L → ℕ) → List TreeProcess → List L → List L
    → TreeReopenError → Type 0
AreReturned bytes forced failures (e ∷ es) (s ∷ ss) (l ∷ ls) why =
    IsReturned bytes forced failures e s l why × AreReturned bytes forced failures es ss ls why
AreReturned bytes forced failures es ss ls why = ls ≡ ss

-- the number of an error
abbrev pub reopen_error_number : TreeReopenError → ℕ
reopen_error_number Memory = 1
reopen_error_number (Device p) = 2
reopen_error_number (DamagedError p place) = 3

-- why a tree was not opened again, if the log of this process was not migrated
abbrev pub error_of_migration : ProcessId → MigrateError → TreeReopenError
error_of_migration p migrations.Memory = Memory
error_of_migration p migrations.Device = Device p
error_of_migration p (migrations.Damaged place) = DamagedError p place

-- likewise, if it did not restart
abbrev pub error_of_node : ProcessId → ProcessReopenError → TreeReopenError
error_of_node p nodes.Memory = Memory
error_of_node p nodes.Device = Device p
error_of_node p (nodes.Damaged place) = DamagedError p place
error_of_node p nodes.Unfit = DamagedError p 0
error_of_node p nodes.OldFormat = DamagedError p 0
