-- The picture of a part of the run of a script.
use Rattle.std.specs.Prelude.{◌≡◌, ◌⊎◌, ◌<◌, ◌≤◌, ℕ, Option, List, Result, Ok, Err, length}
use Rattle.std.specs.Global.{Vec}
use Rattle.protocol.specs.declared.events.Event.{Event}
use Rattle.protocol.specs.declared.names.ProcessId.{ProcessId}
use Rattle.protocol.specs.declared.trees.TreeProcess.{TreeProcess}
use Rattle.protocol.specs.Trees.{root_of}
use Rattle.tree_script.specs.declared.script.ScriptError.TheVariants.{Fault}
use Rattle.tree_script.specs.declared.script.ScriptFault.{ScriptFault}
use Rattle.log_script.specs.declared.line.ProcessLog.{ProcessLog}
use Rattle.reopen_script.specs.Inputs.{IsReopenError, IsReopenScript}
use Rattle.report_io.specs.declared.status.Status.{Status}
use Rattle.proof_runs.specs.worlds.Refusals.{Refusal}
use Rattle.tree_state.specs.Worlds.{WorldState}
use Rattle.tree_world.specs.Worlds.{state}
use Rattle.tree_engine.specs.Runs.{BeginsBy, IsDamageBy}
use Rattle.tree_engine.specs.Trees.{ending}
use Rattle.tree_engine.specs.declared.run.Run.{Run}
use Rattle.picture_parts.specs.declared.fault.PartFault.{PartFault}
use Rattle.picture_parts.specs.declared.fault.PartFault.TheVariants as faults
use Rattle.picture_parts.specs.declared.part.PicturePart.{PicturePart}
use Rattle.picture_parts.specs.Counted.{CountsTo}
use Rattle.picture_parts.specs.Parts.{IsDrawn, IsFault}

-- the text is the picture of a part of the run of these events, from this state on, in a tree with this root
pub record DrawsFrom (part : PicturePart) (root : ProcessId) (start : WorldState) (events : List Event)
    (status : Status)
    (text : List ℕ) : Type 0 where
  pub refusal : Refusal
  pub end : WorldState
  pub counts : List ℕ
  pub counted : CountsTo start events refusal end counts
  pub status_is : status ≡ ending refusal
  pub drawn : IsDrawn part end.tree root (length start.entries) end.entries counts text

-- of that run the part is not drawn for this reason
pub record RefusesFrom (part : PicturePart) (root : ProcessId) (start : WorldState) (events : List Event)
    (fault : PartFault)
    : Type 0 where
  pub refusal : Refusal
  pub end : WorldState
  pub counts : List ℕ
  pub counted : CountsTo start events refusal end counts
  pub there : IsFault part root end.entries counts fault

abbrev pub AnswersFrom : PicturePart → ProcessId → WorldState → List Event → Result (Vec ℕ × Status) PartFault
    → Type 0
AnswersFrom part root start events (Ok r) = DrawsFrom part root start events r.1 r.0.items
AnswersFrom part root start events (Err fault) = RefusesFrom part root start events fault

-- the input is a script of a tree of 40 processes at most, and this is the answer for a part of its run
pub record AnswersRun (part : PicturePart) (input : List ℕ)
    (answer : Result (Vec ℕ × Status) PartFault) : Type 0 where
  pub tree : List TreeProcess
  pub logs : Option (List ProcessLog)
  pub events : List Event
  pub script : IsReopenScript input tree logs events
  pub few : length tree ≤ 40
  pub first : Run
  pub begins : BeginsBy tree logs first
  pub answers : AnswersFrom part (root_of tree) (state first.world) events answer

-- the input is a script of a tree of N processes, more than 40
pub record HasManyProcesses (input : List ℕ) (n : ℕ) : Type 0 where
  pub tree : List TreeProcess
  pub logs : Option (List ProcessLog)
  pub events : List Event
  pub script : IsReopenScript input tree logs events
  pub number : n ≡ length tree
  pub many : 40 < n

-- the input is a script of at most 40 processes and of N events, more than 2,000
pub record HasManyEvents (input : List ℕ) (n : ℕ) : Type 0 where
  pub tree : List TreeProcess
  pub logs : Option (List ProcessLog)
  pub events : List Event
  pub script : IsReopenScript input tree logs events
  pub few : length tree ≤ 40
  pub number : n ≡ length events
  pub many : 2000 < n

-- the whole run of a script is not drawn for this reason
abbrev pub IsTooLarge : List ℕ → PartFault → Type 0
IsTooLarge input (faults.Processes n) = HasManyProcesses input n
IsTooLarge input (faults.Events n) = HasManyEvents input n
IsTooLarge input fault = ⊥

-- the input is a script of at most 40 processes and 2,000 events
pub record IsSmall (input : List ℕ) : Type 0 where
  pub tree : List TreeProcess
  pub logs : Option (List ProcessLog)
  pub events : List Event
  pub script : IsReopenScript input tree logs events
  pub few : length tree ≤ 40
  pub short : length events ≤ 2000

-- it is so, or no script
abbrev pub IsNotTooLarge : List ℕ → Type 0
IsNotTooLarge input = ((fault : ScriptFault) × IsReopenError input (Fault fault)) ⊎ IsSmall input

-- the answer for a part of the run of a script: none of a tree of more than 40 processes
abbrev pub AnswersScript : PicturePart → List ℕ → Result (Vec ℕ × Status) PartFault → Type 0
AnswersScript part input (Err (faults.Processes n)) = HasManyProcesses input n
AnswersScript part input answer = AnswersRun part input answer

-- the input is a script of a tree and of logs, one of which is damaged there
pub record HasDamage (input : List ℕ) : Type 0 where
  pub tree : List TreeProcess
  pub logs : Option (List ProcessLog)
  pub events : List Event
  pub script : IsReopenScript input tree logs events
  pub process : ProcessId
  pub place : ℕ
  pub damaged : IsDamageBy tree logs process place

-- the input is no script, or one of the logs that it begins with is damaged
abbrev pub HasNoRun : List ℕ → Type 0
HasNoRun input = ((fault : ScriptFault) × IsReopenError input (Fault fault)) ⊎ HasDamage input
