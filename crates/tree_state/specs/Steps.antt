-- What a process does with an input is a move of the model's process, in the form in which a run of the model
-- has it.
use Rattle.std.specs.Prelude.{◌≡◌, ◌+◌, ℕ, true, false, Option, None, Some, [], length}
use Rattle.std.specs.List.{AllByRecursion}
use Rattle.protocol.specs.declared.names.ProcessId.{ProcessId}
use Rattle.protocol.specs.declared.events.Fault.{Fault}
use Rattle.protocol.specs.declared.events.Happening.{Happening}
use Rattle.protocol.specs.declared.events.Happening.TheVariants.{Restart, Trim}
use Rattle.protocol_words.specs.Variants.{Handles}
use Rattle.protocol.specs.declared.events.Input.{Input}
use Rattle.protocol.specs.declared.events.Reaction.{Reaction}
use Rattle.protocol.specs.declared.events.StepError.{StepError}
use Rattle.protocol.specs.declared.events.StepError.TheVariants.{Device, Failed}
use Rattle.protocol.specs.Nodes.{DataAnswer, Effect, Node, reaction_of}
use Rattle.protocol.specs.Reactions.{is_passed_over}
use Rattle.protocol.specs.World.{Makes, Move, Refuses, node_makes}
use Rattle.log_rules.specs.sound.Sound.{IsSound}
use Rattle.log_records.specs.Sights.{records_of, whole_within}
use Rattle.process_state.specs.States.{CoreState, kind_of_role}
use Rattle.process_state.specs.Makes.{IsBroken, IsRefusedInput, ProcessMakes}
use Rattle.process_state.specs.Restarting.{ProcessNotRestarted, ProcessNotTrimmed, ProcessRestarts, ProcessTrims}
use Rattle.process_state.specs.Turns.{no_answer, this_version}
use Rattle.tree_state.specs.Fits.{HasOpened, KeepsOwn, NodeFits, OpenFits}
use Rattle.tree_state.specs.StandsFor.{StandsFor}

-- the move of this process by an input, in which its device fails or not, with what a manager's data answer
abbrev pub input_move : ProcessId → Input → Option Fault → DataAnswer → Move
input_move q i fault a =
    record {
      step = record { process = q; happening = Handles i; fault = fault };
      data_answer = a;
      version = this_version;
    }

-- The model's process makes the move too and shows the same, and the process stands for what that leaves.
pub record StepsAs (n : Node) (old new : CoreState) (m : Move) (reaction : Reaction) : Type 0 where
  pub effect : Effect
  pub left : Node
  pub makes : node_makes old.place n m ≡ Makes effect left
  pub shown : reaction ≡ reaction_of effect
  pub stands : StandsFor left new

-- an input that a process of any role makes is a move of the model's process, also where that passes it over
abbrev pub InputsAreMoves : Type 0
InputsAreMoves = (n : Node) (old new : CoreState) (a : DataAnswer) (i : Input) (reaction : Reaction)
    → StandsFor n old → (n.failed ≡ false → NodeFits old.place.role old.place n)
    → ProcessMakes old new a i reaction → StepsAs n old new (input_move old.place.me i None a) reaction

-- a move that a process refuses the model's process refuses by the same error, and the process still stands
-- for it
abbrev pub RefusalsAreMoves : Type 0
RefusalsAreMoves = (n : Node) (old new : CoreState) (a : DataAnswer) (i : Input) (e : StepError)
    → StandsFor n old → (n.failed ≡ false → NodeFits old.place.role old.place n)
    → IsRefusedInput old new a i e
    → (node_makes old.place n (input_move old.place.me i None a) ≡ Refuses e) × StandsFor n new

-- The model's process makes the move too with some fault in it, and the process stands for what that leaves.
pub record FaultsAs (n : Node) (old new : CoreState) (q : ProcessId) (i : Input)
    (a : DataAnswer) : Type 0 where
  pub fault : Fault
  pub effect : Effect
  pub left : Node
  pub makes : node_makes old.place n (input_move q i (Some fault) a) ≡ Makes effect left
  pub stands : StandsFor left new

-- A device's failure in an input is a move of the model's process with a fault in it. Of an input that is
-- passed over the model writes nothing, not even a front of the records that are after the forced ones.
abbrev pub FaultsAreMoves : Type 0
FaultsAreMoves = (n : Node) (old new : CoreState) (a : DataAnswer) (i : Input)
    → StandsFor n old → (n.failed ≡ false → NodeFits old.place.role old.place n)
    → (is_passed_over old.place n i ≡ true → new.log.kept ≡ old.log.kept)
    → IsBroken old new a i → FaultsAs n old new old.place.me i a

-- Restarts and trims.

-- a move of this process in which its data are asked nothing, and in which its device fails or not
abbrev pub quiet_move : ProcessId → Happening → Option Fault → Move
quiet_move q happening fault =
    record {
      step = record { process = q; happening = happening; fault = fault };
      data_answer = no_answer;
      version = this_version;
    }

-- how many of its unforced records a process keeps in a restart that keeps N bytes after the forced
-- front: those that stand whole within them
abbrev pub records_kept : CoreState → ℕ → ℕ
records_kept s keep = length (whole_within (s.log.behind + keep) s.log.kept.unforced)

-- what the journal shows of a restart: N records were kept
abbrev pub restart_of : CoreState → ℕ → Happening
restart_of s keep = Restart (records_kept s keep)

-- what the journal shows of a trim that left N records
abbrev pub trim_reaction : ℕ → Reaction
trim_reaction remain =
    record { begun = None; written = []; told = None; messages = []; kept = Some remain }

-- the records of the process's log can be in a log of its sort
abbrev pub KeepsSoundLog : CoreState → Type 0
KeepsSoundLog s = AllByRecursion (IsSound (kind_of_role s.place.role)) (records_of s.log.kept)

-- The model's process makes this move with some fault in it, and the process stands for what that leaves.
pub record BreaksAs (n : Node) (old new : CoreState) (happening : Happening) : Type 0 where
  pub fault : Fault
  pub effect : Effect
  pub left : Node
  pub makes : node_makes old.place n (quiet_move old.place.me happening (Some fault)) ≡ Makes effect left
  pub stands : StandsFor left new

-- a restart of a process that keeps records of its own alone is a move of the model's process
abbrev pub RestartsAreMoves : Type 0
RestartsAreMoves = (n : Node) (old new : CoreState) (keep : ℕ) (reaction : Reaction)
    → StandsFor n old → KeepsOwn old.place n → ProcessRestarts old keep new reaction
    → StepsAs n old new (quiet_move old.place.me (restart_of old keep) None) reaction

-- a device's failure in a restart is one with a fault in it
abbrev pub RestartFaultsAreMoves : Type 0
RestartFaultsAreMoves = (n : Node) (old new : CoreState) (keep : ℕ)
    → StandsFor n old → KeepsOwn old.place n → ProcessNotRestarted old keep new Device
    → BreaksAs n old new (restart_of old keep)

-- A trim of a process that is up is a move of the model's process, where the records of its log can be in
-- one, and the model's process keeps what every run keeps.
abbrev pub TrimsAreMoves : Type 0
TrimsAreMoves = (n : Node) (old new : CoreState) (remain : ℕ)
    → StandsFor n old → n.failed ≡ false
    → KeepsOwn old.place n → HasOpened n → OpenFits old.place.role old.place n
    → KeepsSoundLog old → ProcessTrims old new remain
    → StepsAs n old new (quiet_move old.place.me Trim None) (trim_reaction remain)

-- a device's failure in a trim of such a process is one with a fault in it
abbrev pub TrimFaultsAreMoves : Type 0
TrimFaultsAreMoves = (n : Node) (old new : CoreState)
    → StandsFor n old → n.failed ≡ false → KeepsOwn old.place n → HasOpened n
    → KeepsSoundLog old → ProcessNotTrimmed old new Device → BreaksAs n old new Trim

-- a process that has failed refuses a trim, as the model's does, and still stands for it
abbrev pub TrimRefusalsAreMoves : Type 0
TrimRefusalsAreMoves = (n : Node) (old new : CoreState) → StandsFor n old → ProcessNotTrimmed old new Failed
    → (node_makes old.place n (quiet_move old.place.me Trim None) ≡ Refuses Failed) × StandsFor n new
