-- A run that goes on until an event is refused.
use Rattle.std.specs.Prelude.{◌≡◌, ◌≢◌, ℕ, false, true, is_some, Option, None, Some, Ok, List, [], length}
use Rattle.protocol.specs.declared.events.Event.{Event}
use Rattle.protocol.specs.declared.events.StepError.{StepError}
use Rattle.protocol_words.specs.step_error
use Rattle.protocol.specs.declared.trees.TreeProcess.{TreeProcess}
use Rattle.protocol.specs.Trees.{IsTree}
use Rattle.tree_state.specs.Runs.{IsOpenedTree}
use Rattle.proof_runs.specs.worlds.Refusals.{IsForItself, LeadsTo, Refusal}
use Rattle.tree_state.specs.Worlds.{WorldState}
use Rattle.tree_world.specs.Worlds.{state}
use Rattle.tree_engine.specs.declared.run.Run.{Run}
use Rattle.report_io.specs.declared.status.Status.{Status}
use Rattle.report_io.specs.declared.streams.Failure.{Failure}
use Rattle.report_io.specs.declared.streams.Failure.TheVariants as failure
use Rattle.picture_run.specs.Lines.{refused_in}
use Rattle.picture_run.specs.Pictures.{IsPicture}
use Rattle.protocol.specs.declared.names.ProcessId.{ProcessId}
use Rattle.tree_script.specs.Inputs.{LinesState, asked_by}
use Rattle.log_script.specs.declared.line.ProcessLog.{ProcessLog}
use Rattle.reopen_script.specs.Inputs.{IsReopenScript}
use Rattle.proof_reopened.specs.Reopened.{IsReopened}
use Rattle.tree_engine.specs.Reopened.{IsDamage, PlaysBy, records_by}
use Rattle.tree_engine.specs.Trees.{IsNumberedRefusal, ending}

-- an event was refused for itself: memory was not refused, no device failed, and numbers are not used up
abbrev pub IsOwn : StepError → Type 0
IsOwn e = (e ≢ step_error.Memory) × (e ≢ step_error.Device) × (e ≢ step_error.Exhausted)

-- a run cannot go on after this refusal of a step, for the same reason
abbrev pub IsFailure : StepError → Failure → Type 0
IsFailure step_error.Memory why = why ≡ failure.Memory
IsFailure step_error.Device why = why ≡ failure.Device
IsFailure step_error.Exhausted why = why ≡ failure.Exhausted
IsFailure e why = ⊥

-- N given events led from one state to another, up to the refused one, if one was
pub record ComesTo (start : WorldState) (given : List Event) (refusal : Refusal) (count : ℕ)
    (now : WorldState) : Type 0 where
  pub leads : LeadsTo start given refusal now
  pub number : refusal ≡ None → count ≡ length given
  pub itself : IsForItself refusal
  pub numbered : IsNumberedRefusal refusal

-- the events that a run was given led from this state to where it stands
abbrev pub HasCome : WorldState → List Event → Run → Type 0
HasCome start given run = ComesTo start given run.refusal run.made (state run.world)

-- a run of a tree that has just opened
pub record OpensRun (tree : List TreeProcess) (run : Run) : Type 0 where
  pub is_tree : IsTree tree
  pub opened : IsOpenedTree (state run.world) tree
  pub begins : HasCome (state run.world) [] run
  pub first : run.world.reopened ≡ false

-- a run of a tree that has just opened over these logs
pub record BeginsOver (tree : List TreeProcess) (logs : List ProcessLog) (run : Run) : Type 0 where
  pub is_tree : IsTree tree
  pub reopened : IsReopened tree (records_by tree logs) (state run.world)
  pub begins : HasCome (state run.world) [] run
  pub over : run.world.reopened ≡ true

-- a run of a tree that has just opened over these logs, or over empty ones
abbrev pub BeginsBy : List TreeProcess → Option (List ProcessLog) → Run → Type 0
BeginsBy tree None run = OpensRun tree run
BeginsBy tree (Some logs) run = BeginsOver tree logs run

-- there are logs, one of which is damaged there
abbrev pub IsDamageBy : List TreeProcess → Option (List ProcessLog) → ProcessId → ℕ → Type 0
IsDamageBy tree None process place = ⊥
IsDamageBy tree (Some logs) process place = IsDamage tree logs process place

-- these lines, made in a tree that has just opened, led a run to its state
pub record HasPlayed (first run : Run) (lines : LinesState) : Type 0 where
  pub events : List Event
  pub asked : asked_by lines ≡ Ok events
  pub come : HasCome (state first.world) events run
  pub over : run.world.reopened ≡ first.world.reopened

-- a run of the script that the input is
pub record PlaysScript (input : List ℕ) (run : Run) : Type 0 where
  pub tree : List TreeProcess
  pub logs : Option (List ProcessLog)
  pub events : List Event
  pub script : IsReopenScript input tree logs events
  pub plays : PlaysBy tree logs events run.refusal (state run.world)
  pub numbered : IsNumberedRefusal run.refusal
  pub over : run.world.reopened ≡ is_some logs

-- these events led to a state from this one, and the text draws how; the run ended so
pub record Draws (start : WorldState) (events : List Event) (status : Status) (text : List ℕ) : Type 0 where
  pub refusal : Refusal
  pub count : ℕ
  pub end : WorldState
  pub come : ComesTo start events refusal count end
  pub status_is : status ≡ ending refusal
  pub picture : IsPicture end.tree (length events) end.entries (refused_in events refusal) text
