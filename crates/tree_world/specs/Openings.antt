-- Processes that have opened empty logs, and why one did not.
use Rattle.std.specs.Prelude.{◌≡◌, ◌⊎◌, ℕ, true, if◌then◌else◌, Option, Some, None, is_some, List, [], ◌∷◌}
use Rattle.protocol.specs.declared.names.ProcessId.{ProcessId}
use Rattle.protocol.specs.declared.trees.TreeProcess.{TreeProcess}
use Rattle.protocol.specs.Names.{same_process}
use Rattle.protocol.specs.Nodes.{is_listed}
use Rattle.process_state.specs.States.{CoreState}
use Rattle.tree_state.specs.Runs.{NodeOpened}
use Rattle.resource_manager.specs.Data.{DataRests, no_data}
use Rattle.tree_process.specs.declared.opening.ProcessOpenError.{ProcessOpenError}
use Rattle.log_records.specs.Sights.{kept_of}
use Rattle.process_state.specs.Opening.{first_opened}
use Rattle.tree_process.specs.Openings.{HandsStoreBack, ProcessNotOpened}
use Rattle.tree_process.specs.Reopenings.{form_by}
use Rattle.tree_world.specs.Nodes.{NodesSight}

-- of the tree, these processes have
pub record AreOpened (tree listed : List TreeProcess) (ns : NodesSight) : Type 0 where
  pub opened : (q : ProcessId) (s : CoreState) → ns.node_at q ≡ Some s → NodeOpened tree q s
  pub listed_are : (q : ProcessId) → is_some (ns.node_at q) ≡ is_listed listed q
  pub holdings : (q : ProcessId) → DataRests no_data (ns.data_at q)

-- Refusals.

-- the store of a process: the one at the place of the process among these entries, if there are N
abbrev pub store_of : {L : Type 0} → List TreeProcess → List L → ProcessId → Option L
store_of [] stores q = None
store_of (e ∷ es) [] q = None
store_of (e ∷ es) (s ∷ ss) q = if same_process e.id q then Some s else store_of es ss q

-- why a tree did not open over these stores: a process of it did not open over its own
pub record TreeNotOpened {L : Type 0} (bytes : L → List ℕ) (failures : L → ℕ) (tree : List TreeProcess)
    (stores : List L) (e : ProcessOpenError) : Type 0 where
  pub process : ProcessId
  pub listed : is_listed tree process ≡ true
  pub why : ProcessNotOpened bytes failures process (store_of tree stores process) e

-- a store holds the log of a process that has just opened: its first record, forced
abbrev pub HoldsFirst : {L : Type 0} → (L → List ℕ) → (L → ℕ) → TreeProcess → L → Type 0
HoldsFirst bytes forced e store =
    kept_of (form_by e) (bytes store) (forced store) ≡ record { forced = first_opened ∷ []; unforced = [] }

-- the stores that are handed back where a tree does not open, in the order of its processes: each process
-- before one had opened, that one had not, and those after it are as they were
abbrev pub AreHandedBack : {L : Type 0} → (L → List ℕ) → (L → ℕ) → (L → ℕ) → List TreeProcess → List L
    → List L
    → ProcessOpenError → Type 0
AreHandedBack bytes forced failures (e ∷ es) (s ∷ ss) (l ∷ ls) why =
    (HandsStoreBack failures s l why × (ls ≡ ss))
    ⊎ (HoldsFirst bytes forced e l × AreHandedBack bytes forced failures es ss ls why)
AreHandedBack bytes forced failures es ss ls why = ls ≡ ss
