-- One process of a tree, of either kind, as the definitions see it.
use Rattle.std.specs.Prelude.{◌≡◌, ◌≢◌, ℕ, true, List}
use Rattle.case_table.specs.Tables.{live_count}
use Rattle.protocol.specs.declared.names.Case.{Case}
use Rattle.protocol.specs.declared.events.Input.{Input}
use Rattle.protocol.specs.declared.records.LogRecord.{LogRecord}
use Rattle.protocol.specs.declared.events.StepError.{StepError}
use Rattle.protocol.specs.declared.events.StepError.TheVariants.{Device}
use Rattle.protocol.specs.declared.standings.Standing.{Standing}
use Rattle.protocol.specs.Nodes.{DataAnswer, Role, AtLeaf}
use Rattle.log_records.specs.Sights.{ReadsAs, log_state, records_of}
use Rattle.process_state.specs.States.{CoreState, form_of}
use Rattle.process_state.specs.Makes.{IsBroken, NotMade}
use Rattle.tree_state.specs.Steps.{KeepsSoundLog}
use Rattle.tree_state.specs.Worlds.{AnswersData}
use Rattle.tree_state.specs.Faults.{WritesBelow}
use Rattle.coord_process.specs.States
use Rattle.kv_manager.specs.Resources.{sight_of}
use Rattle.kv_manager.specs.Sights.{are_ordered}
use Rattle.resource_manager.specs.Data.{ManagerData, DataRests, no_data}
use Rattle.resource_manager.specs.Sights.{manager_data}
use Rattle.sub_process.specs.Steps
use Rattle.tree_process.specs.declared.node.Process.{Process}
use Rattle.tree_process.specs.declared.node.Process.TheVariants.{Coordinator, Manager}

-- what a process keeps
abbrev pub core_of : {L : Type 0} → Process L → CoreState
core_of (Coordinator c) = States.state c
core_of (Manager m) = Steps.state sight_of m

-- where a case is at a process
abbrev pub standing_at : {L : Type 0} → Process L → Case → Standing
standing_at (Coordinator p) c = ((States.state p).view_of c).standing
standing_at (Manager p) c = ((Steps.state sight_of p).branch_of c).standing

-- how many cases are live at a process
abbrev pub live_at : {L : Type 0} → Process L → ℕ
live_at (Coordinator c) = live_count c.slots
live_at (Manager m) = live_count m.table.branches

-- the data of a manager; a coordinator has none
abbrev pub data_of : {L : Type 0} → Process L → ManagerData
data_of (Coordinator c) = no_data
data_of (Manager m) = manager_data (sight_of m.manager)

-- the bytes read as the log of this process
abbrev pub SpellsLog : CoreState → List ℕ → Type 0
SpellsLog s text = ReadsAs (form_of s.place) text (records_of s.log.kept) s.log.failed

-- a store holds the log of this process: its bytes, what is forced of them, and how often its device failed
abbrev pub HoldsLog : {L : Type 0} → (L → List ℕ) → (L → ℕ) → (L → ℕ) → CoreState → L → Type 0
HoldsLog bytes forced failures s store =
    (log_state (form_of s.place) (bytes store) (forced store) (failures store) 0 s.log.failed).sight ≡ s.log

-- the records of a manager may follow one another; that a coordinator's may is a law of every run
abbrev pub FollowAt : Role → List LogRecord → Type 0
FollowAt (AtLeaf p) ls = are_ordered ls ≡ true
FollowAt _ ls = Unit {0}

-- each record of the process can be in its log, and a manager's may follow one another
pub record LogStands (s : CoreState) : Type 0 where
  pub sound : KeepsSoundLog s
  pub follow : FollowAt s.place.role (records_of s.log.kept)

-- an error but the device's leaves data as they were
abbrev pub KeepsDataUnlessFailed : ManagerData → ManagerData → StepError → Type 0
KeepsDataUnlessFailed old new e = e ≢ Device → DataRests old new

-- the data of a process answer this input in some way
abbrev pub HasAnswer : CoreState → ManagerData → Input → Type 0
HasAnswer s d i = (a : DataAnswer) × AnswersData s.place.role d s a i

-- why a process did not handle an input, as its data answer that, and what it leaves
pub record NotHandled (old new : CoreState) (before behind : ManagerData) (i : Input)
    (e : StepError) : Type 0 where
  pub answer : DataAnswer
  pub answers : AnswersData old.place.role before old answer i
  pub not_made : NotMade old new answer i e
  pub keeps : KeepsDataUnlessFailed before behind e

-- the device failed under an input, as its data answer that, and at a coordinator below the root under a
-- record
pub record FailsUnder (old new : CoreState) (before : ManagerData) (i : Input) : Type 0 where
  pub answer : DataAnswer
  pub answers : AnswersData old.place.role before old answer i
  pub broken : IsBroken old new answer i
  pub writes : WritesBelow old.place.role broken.breaks.0.written
