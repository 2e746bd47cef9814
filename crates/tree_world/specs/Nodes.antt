-- The processes of a tree, as the definitions see them.
use Rattle.std.specs.Prelude.{◌≡◌, ℕ, false, Option, Some, None, List, [], option_map}
use Rattle.std.specs.Map.{lookup}
use Rattle.protocol.specs.declared.names.ProcessId.{ProcessId}
use Rattle.protocol.specs.contracts.names.ProcessIdPartialEq.TheImpl as processes
use Rattle.protocol.specs.declared.records.LogRecord.{LogRecord}
use Rattle.protocol.specs.declared.events.Input.{Input}
use Rattle.protocol.specs.declared.events.Reaction.{Reaction}
use Rattle.protocol.specs.declared.events.StepError.{StepError}
use Rattle.protocol.specs.declared.events.StepError.TheVariants.{Memory, Device, Exhausted}
use Rattle.protocol.specs.Names.{same_process}
use Rattle.protocol.specs.Nodes.{DataAnswer}
use Rattle.log_records.specs.Sights.{records_of}
use Rattle.process_state.specs.States.{CoreState}
use Rattle.process_state.specs.Makes.{IsBroken}
use Rattle.resource_manager.specs.Data.{ManagerData, DataRests, no_data}
use Rattle.tree_state.specs.Worlds.{AnswersData, HandlesInput, RefusesAt, SameNode, WantsNumbersAt}
use Rattle.tree_process.specs.declared.node.Process.{Process}
use Rattle.tree_process.specs.Nodes.{FailsUnder, SpellsLog, core_of, data_of}

-- the process with this name
abbrev pub node_in : {L : Type 0} → List (ProcessId × Process L) → ProcessId → Option (Process L)
node_in ns q = lookup (processes.ghosts.eq q) ns

abbrev pub data_in : {L : Type 0} → Option (Process L) → ManagerData
data_in None = no_data
data_in (Some n) = data_of n

-- what the processes of a tree keep, and their data
pub record NodesSight : Type 0 where
  pub node_at : ProcessId → Option CoreState
  pub data_at : ProcessId → ManagerData

-- what each process keeps
abbrev pub nodes_at : {L : Type 0} → List (ProcessId × Process L) → ProcessId → Option CoreState
nodes_at ns q = option_map core_of (node_in ns q)

-- what each process keeps, and its data
abbrev pub kept_at : {L : Type 0} → List (ProcessId × Process L) → NodesSight
kept_at ns = record { node_at = nodes_at ns; data_at = λ q. data_in (node_in ns q) }

-- the records of a process's log; none, if there is no such process
abbrev pub log_by : Option CoreState → List LogRecord
log_by None = []
log_by (Some s) = records_of s.log.kept

-- likewise; if there is no such process, there are no bytes
abbrev pub SpellsLogBy : Option CoreState → List ℕ → Type 0
SpellsLogBy None text = text ≡ []
SpellsLogBy (Some s) text = SpellsLog s text

-- of the processes this one alone moves, from the first state to the second
pub record MovesAt (old new : NodesSight) (q : ProcessId)
    (before behind : CoreState) : Type 0 where
  pub stood : old.node_at q ≡ Some before
  pub stands : new.node_at q ≡ Some behind
  pub others : (p : ProcessId) → same_process q p ≡ false → new.node_at p ≡ old.node_at p
  pub others_data : (p : ProcessId) → same_process q p ≡ false → new.data_at p ≡ old.data_at p

-- a process handles an input
pub record StepsAt (old new : NodesSight) (q : ProcessId) (input : Input)
    (reaction : Reaction) : Type 0 where
  pub before : CoreState
  pub behind : CoreState
  pub moves : MovesAt old new q before behind
  pub handles : HandlesInput before behind (old.data_at q) (new.data_at q) input reaction

-- the device of the process failed under an input
pub record BreaksAt (old new : NodesSight) (q : ProcessId) (input : Input) : Type 0 where
  pub before : CoreState
  pub behind : CoreState
  pub moves : MovesAt old new q before behind
  pub answer : DataAnswer
  pub answers : AnswersData before.place.role (old.data_at q) before answer input
  pub broken : IsBroken before behind answer input

-- the device of the process failed under an input, and at a coordinator below the root under a record
pub record BreaksUnder (old new : NodesSight) (q : ProcessId) (input : Input) : Type 0 where
  pub before : CoreState
  pub behind : CoreState
  pub moves : MovesAt old new q before behind
  pub fails : FailsUnder before behind (old.data_at q) input

-- nothing is otherwise at any process
pub record SameNodes (old new : NodesSight) : Type 0 where
  pub nodes : (q : ProcessId) → SameNode (old.node_at q) (new.node_at q)
  pub holdings : (q : ProcessId) → DataRests (old.data_at q) (new.data_at q)

-- why a process did not handle an input, and what that leaves of all
abbrev pub NoStepAt : NodesSight → NodesSight → ProcessId → Input → StepError → Type 0
NoStepAt old new q i Memory = SameNodes old new
NoStepAt old new q i Device = BreaksAt old new q i
NoStepAt old new q i Exhausted = SameNodes old new × WantsNumbersAt (old.node_at q) (old.data_at q) i
NoStepAt old new q i e = SameNodes old new × RefusesAt (old.node_at q) i e
