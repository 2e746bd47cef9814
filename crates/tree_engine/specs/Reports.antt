-- What is written of an input.
use Rattle.std.specs.Prelude.{◌≡◌, ◌⊎◌, ℕ, true, Some, List, Result, Ok, Err}
use Rattle.protocol.specs.declared.events.Event.{Event}
use Rattle.protocol.specs.declared.names.ProcessId.{ProcessId}
use Rattle.protocol.specs.declared.trees.TreeProcess.{TreeProcess}
use Rattle.tree_script.specs.declared.script.ScriptError.TheVariants.{Fault}
use Rattle.tree_script.specs.declared.script.ScriptFault.{ScriptFault}
use Rattle.tree_script.specs.Inputs.{IsLineError}
use Rattle.log_script.specs.declared.line.ProcessLog.{ProcessLog}
use Rattle.log_script.specs.Faults.{damage_text}
use Rattle.reopen_script.specs.Inputs.{IsReopenFault, IsReopenScript}
use Rattle.report_io.specs.declared.status.Status.{Status}
use Rattle.report_io.specs.declared.status.Status.TheVariants.{Ended, Refused, Stopped}
use Rattle.proof_runs.specs.worlds.Refusals.{Refusal}
use Rattle.tree_state.specs.Worlds.{WorldState}
use Rattle.tree_engine.specs.declared.tree.InputFault.{InputFault}
use Rattle.tree_engine.specs.declared.tree.InputFault.TheVariants as inputs
use Rattle.tree_engine.specs.declared.tree.TreeOutput.{TreeOutput}
use Rattle.tree_engine.specs.Reopened.{IsDamage, Replays}
use Rattle.tree_engine.specs.Trees.{RunsScript, Tells, ending, fault_text}

-- The text is that of the run of just these events over just these logs, and tells the state to which it
-- came.
pub record ReopensOver (output : TreeOutput) (tree : List TreeProcess) (logs : List ProcessLog)
    (events : List Event)
    (status : Status) (text : List ℕ) : Type 0 where
  pub refusal : Refusal
  pub end : WorldState
  pub plays : Replays tree logs events refusal end
  pub status_is : status ≡ ending refusal
  pub tells : Tells true output events end refusal text

-- the text is that of the run of the script that the input is, which begins its events with logs
pub record ReopensScript (output : TreeOutput) (status : Status) (input text : List ℕ) : Type 0 where
  pub tree : List TreeProcess
  pub logs : List ProcessLog
  pub events : List Event
  pub script : IsReopenScript input tree (Some logs) events
  pub runs : ReopensOver output tree logs events status text

-- the text is the line of the fault that is there, in a script that may begin its events with logs
pub record RefusesInput (input text : List ℕ) : Type 0 where
  pub fault : ScriptFault
  pub there : IsReopenFault input fault
  pub line : text ≡ fault_text fault

-- the input is a script that begins its events with logs, one of which is damaged there
pub record IsDamaged (input : List ℕ) (process : ProcessId) (place : ℕ) : Type 0 where
  pub tree : List TreeProcess
  pub logs : List ProcessLog
  pub events : List Event
  pub script : IsReopenScript input tree (Some logs) events
  pub damage : IsDamage tree logs process place

-- the text is the line of the damaged log, in a script with which nothing else is wrong
pub record TellsLogDamage (input text : List ℕ) : Type 0 where
  pub process : ProcessId
  pub place : ℕ
  pub there : IsDamaged input process place
  pub line : text ≡ damage_text process place

-- what is wrong with an input is there
abbrev pub IsInputFault : List ℕ → InputFault → Type 0
IsInputFault input (inputs.Script fault) = IsReopenFault input fault
IsInputFault input (inputs.Damaged process place) = IsDamaged input process place

-- what is first wrong with a script one of whose logs is damaged there, if its lines ask for this: a line
-- that is not an event, or the log
abbrev pub IsFirstFault : ProcessId → ℕ → Result (List Event) ℕ → InputFault → Type 0
IsFirstFault process place asked (inputs.Script fault) = IsLineError (Fault fault) asked
IsFirstFault process place (Ok events) (inputs.Damaged p at) = (p ≡ process) × (at ≡ place)
IsFirstFault process place (Err n) (inputs.Damaged p at) = ⊥

-- what is written of an input, by how the run ends
abbrev pub IsTreeReport : TreeOutput → Status → List ℕ → List ℕ → Type 0
IsTreeReport output Ended input text = RunsScript output Ended input text
    ⊎ ReopensScript output Ended input text
IsTreeReport output Stopped input text = RunsScript output Stopped input text
    ⊎ ReopensScript output Stopped input text
IsTreeReport output Refused input text = RefusesInput input text ⊎ TellsLogDamage input text
