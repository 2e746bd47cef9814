-- What each process of the model keeps of its cases in every run.
use Rattle.std.specs.Prelude.{◌≡◌, ℕ, true, false, None, Some, List, ◌++◌}
use Rattle.protocol.specs.declared.names.ProcessId.{ProcessId}
use Rattle.protocol.specs.declared.events.Fault.{Fault}
use Rattle.protocol.specs.declared.events.Happening.{Happening}
use Rattle.protocol.specs.declared.events.Happening.TheVariants.{Trim}
use Rattle.protocol.specs.declared.events.Input.{Input}
use Rattle.protocol.specs.declared.events.Reaction.{Reaction}
use Rattle.protocol.specs.declared.events.StepError.{StepError}
use Rattle.protocol.specs.declared.events.StepError.TheVariants.{Device, Failed}
use Rattle.protocol.specs.declared.trees.TreeProcess.{TreeProcess}
use Rattle.protocol.specs.Nodes.{DataAnswer, Effect, Node, is_listed, place_of, reaction_of, role_of}
use Rattle.protocol.specs.Reactions.{is_passed_over}
use Rattle.protocol.specs.Trees.{IsTree}
use Rattle.protocol.specs.World.{IsRun, Made, Move, World, put_at, world_makes}
use Rattle.process_state.specs.States.{CoreState}
use Rattle.process_state.specs.Makes.{IsBroken, IsRefusedInput, ProcessMakes}
use Rattle.process_state.specs.Restarting.{ProcessNotRestarted, ProcessNotTrimmed, ProcessRestarts, ProcessTrims}
use Rattle.tree_state.specs.Fits.{HasOpened, KeepsOwn, NodeFits, OpenFits}
use Rattle.tree_state.specs.Steps.{KeepsSoundLog, input_move, quiet_move, restart_of, trim_reaction}
use Rattle.tree_state.specs.StandsFor.{StandsFor}

-- in every run each process whose device did not fail keeps what the law of its role asks for
abbrev pub RunsFit : Type 0
RunsFit = (tree : List TreeProcess) (es : List Made) (w : World) → IsRun tree es w → (q : ProcessId)
    → (w.at q).failed ≡ false → NodeFits (role_of tree q) (place_of tree q) (w.at q)

-- The process's move is one of the model's world, which then has the process as the move leaves it, and the
-- net with what the move sent after it; the move shows the same, and the process stands for what is left of
-- the model's.
pub record MovesWorld (tree : List TreeProcess) (w : World) (q : ProcessId) (new : CoreState) (m : Move)
    (reaction : Reaction) : Type 0 where
  pub effect : Effect
  pub left : Node
  pub makes : world_makes tree w m
      ≡ Some (effect, record { at = put_at q left w.at; net = w.net ++ effect.messages })
  pub shown : reaction ≡ reaction_of effect
  pub stands : StandsFor left new

-- after any run, what a listed process makes of an input is a move of the model's world
abbrev pub InputsMoveRuns : Type 0
InputsMoveRuns = (tree : List TreeProcess) (es : List Made) (w : World) → IsRun tree es w
    → (q : ProcessId) → is_listed tree q ≡ true
    → (old new : CoreState) (a : DataAnswer) (i : Input) (reaction : Reaction)
    → old.place ≡ place_of tree q → StandsFor (w.at q) old → ProcessMakes old new a i reaction
    → MovesWorld tree w q new (input_move q i None a) reaction

-- after any run, what a process refuses is no move of the model's world, and the process still stands for
-- the model's
abbrev pub RefusalsMoveNothing : Type 0
RefusalsMoveNothing = (tree : List TreeProcess) (es : List Made) (w : World) → IsRun tree es w
    → (q : ProcessId) (old new : CoreState) (a : DataAnswer) (i : Input) (e : StepError)
    → old.place ≡ place_of tree q → StandsFor (w.at q) old → IsRefusedInput old new a i e
    → (world_makes tree w (input_move q i None a) ≡ None) × StandsFor (w.at q) new

-- The process's move by this input is one of the model's world with a fault in it, which then has the process
-- as the fault leaves it; the process stands for that.
pub record BreaksWorld (tree : List TreeProcess) (w : World) (q : ProcessId) (new : CoreState) (i : Input)
    (a : DataAnswer) : Type 0 where
  pub fault : Fault
  pub effect : Effect
  pub left : Node
  pub makes : world_makes tree w (input_move q i (Some fault) a)
      ≡ Some (effect, record { at = put_at q left w.at; net = w.net ++ effect.messages })
  pub stands : StandsFor left new

-- after any run, a device's failure in an input of a listed process is a move of the model's world with a
-- fault in it
abbrev pub FaultsMoveRuns : Type 0
FaultsMoveRuns = (tree : List TreeProcess) (es : List Made) (w : World) → IsRun tree es w
    → (q : ProcessId) → is_listed tree q ≡ true → (old new : CoreState) (a : DataAnswer) (i : Input)
    → old.place ≡ place_of tree q → StandsFor (w.at q) old
    → (is_passed_over old.place (w.at q) i ≡ true → new.log.kept ≡ old.log.kept)
    → IsBroken old new a i → BreaksWorld tree w q new i a

-- Restarts and trims.

-- in every run of a tree each listed process keeps records of its own alone
abbrev pub RunsKeepOwn : Type 0
RunsKeepOwn = (tree : List TreeProcess) (es : List Made) (w : World) → IsTree tree → IsRun tree es w
    → (q : ProcessId) → is_listed tree q ≡ true → KeepsOwn (place_of tree q) (w.at q)

-- in every run an Opened is in the log of each process
abbrev pub RunsHaveOpened : Type 0
RunsHaveOpened = (tree : List TreeProcess) (es : List Made) (w : World) → IsRun tree es w → (q : ProcessId)
    → HasOpened (w.at q)

-- in every run each process whose device did not fail keeps of open cases what a trim asks for
abbrev pub RunsKeepOpen : Type 0
RunsKeepOpen = (tree : List TreeProcess) (es : List Made) (w : World) → IsRun tree es w → (q : ProcessId)
    → (w.at q).failed ≡ false → OpenFits (role_of tree q) (place_of tree q) (w.at q)

-- The process's move by what happens here is one of the model's world with a fault in it, which then has the
-- process as the fault leaves it; the process stands for that.
pub record BreaksOffWorld (tree : List TreeProcess) (w : World) (q : ProcessId) (new : CoreState)
    (happening : Happening) : Type 0 where
  pub fault : Fault
  pub effect : Effect
  pub left : Node
  pub makes : world_makes tree w (quiet_move q happening (Some fault))
      ≡ Some (effect, record { at = put_at q left w.at; net = w.net ++ effect.messages })
  pub stands : StandsFor left new

-- after any run of a tree, a restart of a listed process is a move of the model's world
abbrev pub RestartsMoveRuns : Type 0
RestartsMoveRuns = (tree : List TreeProcess) (es : List Made) (w : World) → IsTree tree → IsRun tree es w
    → (q : ProcessId) → is_listed tree q ≡ true → (old new : CoreState) (keep : ℕ) (reaction : Reaction)
    → old.place ≡ place_of tree q → StandsFor (w.at q) old → ProcessRestarts old keep new reaction
    → MovesWorld tree w q new (quiet_move q (restart_of old keep) None) reaction

-- and a device's failure in it is one with a fault in it
abbrev pub RestartFaultsMoveRuns : Type 0
RestartFaultsMoveRuns = (tree : List TreeProcess) (es : List Made) (w : World) → IsTree tree → IsRun tree es w
    → (q : ProcessId) → is_listed tree q ≡ true → (old new : CoreState) (keep : ℕ)
    → old.place ≡ place_of tree q → StandsFor (w.at q) old → ProcessNotRestarted old keep new Device
    → BreaksOffWorld tree w q new (restart_of old keep)

-- after any run of a tree, a trim of a listed process that is up, and whose records can be in a log, is
-- a move of the model's world
abbrev pub TrimsMoveRuns : Type 0
TrimsMoveRuns = (tree : List TreeProcess) (es : List Made) (w : World) → IsTree tree → IsRun tree es w
    → (q : ProcessId) → is_listed tree q ≡ true → (old new : CoreState) (remain : ℕ)
    → old.place ≡ place_of tree q → StandsFor (w.at q) old → old.log.failed ≡ false → KeepsSoundLog old
    → ProcessTrims old new remain → MovesWorld tree w q new (quiet_move q Trim None) (trim_reaction remain)

-- and a device's failure in it is one with a fault in it
abbrev pub TrimFaultsMoveRuns : Type 0
TrimFaultsMoveRuns = (tree : List TreeProcess) (es : List Made) (w : World) → IsTree tree → IsRun tree es w
    → (q : ProcessId) → is_listed tree q ≡ true → (old new : CoreState)
    → old.place ≡ place_of tree q → StandsFor (w.at q) old → old.log.failed ≡ false → KeepsSoundLog old
    → ProcessNotTrimmed old new Device → BreaksOffWorld tree w q new Trim

-- a trim that a failed process refuses is no move of the model's world, and the process still stands for the
-- model's
abbrev pub TrimRefusalsMoveNothing : Type 0
TrimRefusalsMoveNothing = (tree : List TreeProcess) (w : World) (q : ProcessId) (old new : CoreState)
    → old.place ≡ place_of tree q → StandsFor (w.at q) old → ProcessNotTrimmed old new Failed
    → (world_makes tree w (quiet_move q Trim None) ≡ None) × StandsFor (w.at q) new
