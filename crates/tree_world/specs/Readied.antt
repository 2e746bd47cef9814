-- How the logs of a tree are gone over and migrated, one after another, and how its processes restart over
-- them then.
use Rattle.std.specs.Prelude.{◌≡◌, ⊤, ◌⊎◌, ℕ, true, Some, None, List, [], ◌∷◌, ◌++◌, take}
use Rattle.protocol.specs.declared.names.ProcessId.{ProcessId}
use Rattle.protocol.specs.declared.trees.TreeProcess.{TreeProcess}
use Rattle.protocol.specs.declared.messages.Envelope.{Envelope}
use Rattle.protocol.specs.declared.events.JournalEntry.{JournalEntry}
use Rattle.protocol.specs.declared.events.Happening.TheVariants.{Restart}
use Rattle.protocol.specs.declared.events.Reaction.{Reaction}
use Rattle.protocol.specs.Nodes.{is_listed, place_of}
use Rattle.log_rules.specs.order.Logs.{Whole, read_as, read_log}
use Rattle.log_store.specs.Stores.{MoreFailures}
use Rattle.log_text.specs.Forms.{header}
use Rattle.log_text.specs.declared.form.LogFormat.TheVariants.{Second}
use Rattle.tree_state.specs.Worlds.{step_entry, undelivered}
use Rattle.process_state.specs.States.{CoreState}
use Rattle.resource_manager.specs.Data.{ManagerData}
use Rattle.tree_journal.specs.Journals.{JournalState}
use Rattle.tree_process.specs.Reopenings.{FailsOver, ReopensAs, form_by, place_by}
use Rattle.tree_world.specs.Nodes.{NodesSight}
use Rattle.tree_world.specs.Openings.{store_of}
use Rattle.tree_world.specs.OwnNames.{fault_of}
use Rattle.tree_world.specs.Reopenings.{AreRestarted, FailsIn, HoldsOn, NoneRestarts, faults_from, ready_logs, records_read}
use Rattle.tree_world.specs.declared.reopening.TreeReopenError.{TreeReopenError}
use Rattle.tree_world.specs.declared.reopening.TreeReopenError.TheVariants.{Memory, Device, Damaged as DamagedError}

-- The logs are made ready.

-- a log of the second format is in the store, wholly of frames
pub record IsReady {L : Type 0} (bytes : L → List ℕ) (e : TreeProcess) (store : L) : Type 0 where
  pub begins : take 5 (bytes store) ≡ header Second
  pub reads : read_log (form_by e) (bytes store) ≡ Whole (records_read (read_log (form_by e) (bytes store))) 0

-- the log in the store has no fault, and its records stand now in the second format
pub record IsReadied {L : Type 0} (bytes : L → List ℕ) (failures : L → ℕ) (tree : List TreeProcess)
    (e : TreeProcess)
    (old new : L) : Type 0 where
  pub sound : fault_of tree e (bytes old) ≡ None
  pub begins : take 5 (bytes new) ≡ header Second
  pub reads : read_log (form_by e) (bytes new) ≡ Whole (records_read (read_as e.id e.kind (bytes old))) 0
  pub failures_stay : failures new ≡ failures old

-- so it is of the stores of these processes of the tree
abbrev pub AreReadied : {L : Type 0} → (L → List ℕ) → (L → ℕ) → List TreeProcess → List TreeProcess → List L
    → List L → Type 0
AreReadied bytes failures tree [] olds news = news ≡ olds
AreReadied bytes failures tree (e ∷ es) (s ∷ ss) (l ∷ ls) =
    IsReadied bytes failures tree e s l × AreReadied bytes failures tree es ss ls
AreReadied bytes failures tree es olds news = ⊥

-- the stores of these processes are ready
abbrev pub AreReady : {L : Type 0} → (L → List ℕ) → List TreeProcess → List L → Type 0
AreReady bytes (e ∷ es) (s ∷ ss) = IsReady bytes e s × AreReady bytes es ss
AreReady bytes es ss = ⊤

-- why the store of a process is not made ready
abbrev pub NotReadied : {L : Type 0} → (L → List ℕ) → (L → ℕ) → List TreeProcess → TreeProcess → L
    → TreeReopenError → Type 0
NotReadied bytes failures tree e store Memory = ⊤
NotReadied bytes failures tree e store (Device p) = (p ≡ e.id) × FailsOver failures store
NotReadied bytes failures tree e store (DamagedError p place) =
    (p ≡ e.id) × (fault_of tree e (bytes store) ≡ Some place)

-- why those of these processes of the tree are not
abbrev pub AreNotReadied : {L : Type 0} → (L → List ℕ) → (L → ℕ) → List TreeProcess → List TreeProcess
    → List L → TreeReopenError
    → Type 0
AreNotReadied bytes failures tree es stores Memory = ⊤
AreNotReadied bytes failures tree es stores (Device p) =
    (is_listed es p ≡ true) × FailsIn failures (store_of es stores p)
AreNotReadied bytes failures tree es stores (DamagedError p place) = faults_from bytes tree es stores
    ≡ Some (p, place)

-- The processes restart.

-- the restart of a process was entered
pub record EntersRestart (old new : JournalState) (q : ProcessId) (reaction : Reaction) : Type 0 where
  pub net : new.net ≡ old.net ++ reaction.messages
  pub delivered : new.delivered ≡ old.delivered ++ undelivered reaction.messages
  pub entries : new.entries ≡ old.entries ++ step_entry q (Restart 0) reaction ∷ []

-- the process of this entry restarted over the log in this store, and that was entered
pub record RestartsIn {L : Type 0} (bytes : L → List ℕ) (forced failures : L → ℕ) (tree : List TreeProcess)
    (e : TreeProcess)
    (store : L) (core : CoreState) (values : ManagerData) (old new : JournalState) : Type 0 where
  pub reaction : Reaction
  pub reopens : ReopensAs tree e (bytes store) (forced store) (failures store) core values reaction
  pub enters : EntersRestart old new e.id reaction

-- these processes of the tree restarted over these stores, one after another, and each restart was entered
pub record AllRestart {L : Type 0} (bytes : L → List ℕ) (tree es : List TreeProcess) (stores : List L)
    (ns : NodesSight)
    (old new : JournalState) : Type 0 where
  pub sent : List Envelope
  pub made : List JournalEntry
  pub restarted : AreRestarted bytes tree es stores ns sent made
  pub net : new.net ≡ old.net ++ sent
  pub delivered : new.delivered ≡ old.delivered ++ undelivered sent
  pub entries : new.entries ≡ old.entries ++ made

-- why the process of this entry did not restart over the log in its store
abbrev pub TreeNotRestarted : {L : Type 0} → (L → List ℕ) → (L → ℕ) → List TreeProcess → TreeProcess → L
    → TreeReopenError → Type 0
TreeNotRestarted bytes failures tree e store Memory = ⊤
TreeNotRestarted bytes failures tree e store (Device p) = (p ≡ e.id) × FailsOver failures store
TreeNotRestarted bytes failures tree e store (DamagedError p place) =
    (p ≡ e.id) × (place ≡ 0) × NoneRestarts (place_by tree e)
    (records_read (read_log (form_by e) (bytes store)))

-- why these processes of the tree did not
abbrev pub AreNotRestarted : {L : Type 0} → (L → List ℕ) → (L → ℕ) → List TreeProcess → List TreeProcess
    → List L → TreeReopenError
    → Type 0
AreNotRestarted bytes failures tree es stores Memory = ⊤
AreNotRestarted bytes failures tree es stores (Device p) =
    (is_listed es p ≡ true) × FailsIn failures (store_of es stores p)
AreNotRestarted bytes failures tree es stores (DamagedError p place) =
    (is_listed es p ≡ true) × (place ≡ 0) × NoneRestarts (place_of tree p) (ready_logs bytes es stores p)

-- the store of a process that was ready is given back: its device failed, or the records are in it that stood
-- there
abbrev pub IsGivenBack : {L : Type 0} → (L → List ℕ) → (L → ℕ) → (L → ℕ) → TreeProcess → L → L
    → TreeReopenError → Type 0
IsGivenBack bytes forced failures e old new (Device p) =
    ((e.id ≡ p) × MoreFailures (failures old) (failures new))
    ⊎ HoldsOn bytes forced e (records_read (read_log (form_by e) (bytes old))) new
IsGivenBack bytes forced failures e old new why =
    HoldsOn bytes forced e (records_read (read_log (form_by e) (bytes old))) new

-- so are those of these processes
abbrev pub AreGivenBack : {L : Type 0} → (L → List ℕ) → (L → ℕ) → (L → ℕ) → List TreeProcess → List L → List L
    → TreeReopenError
    → Type 0
AreGivenBack bytes forced failures (e ∷ es) (s ∷ ss) (l ∷ ls) why =
    IsGivenBack bytes forced failures e s l why × AreGivenBack bytes forced failures es ss ls why
AreGivenBack bytes forced failures es ss ls why = ls ≡ ss
