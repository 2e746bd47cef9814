-- What is written of an input.
use Rattle.std.specs.Prelude.{◌≡◌, ◌⊎◌, ℕ, Option, List}
use Rattle.protocol.specs.declared.events.Event.{Event}
use Rattle.protocol.specs.declared.trees.TreeProcess.{TreeProcess}
use Rattle.log_script.specs.declared.line.ProcessLog.{ProcessLog}
use Rattle.reopen_script.specs.Inputs.{IsReopenScript}
use Rattle.proof_runs.specs.worlds.Refusals.{Refusal}
use Rattle.tree_engine.specs.Reports.{RefusesInput, TellsLogDamage}
use Rattle.crash_engine.specs.Trials.{EndsAlone, GoesOver, known_of}
use Rattle.crash_engine.specs.declared.origin.Origin.{Origin}
use Rattle.crash_engine.specs.declared.trial.CrashEnd.{CrashEnd}
use Rattle.crash_engine.specs.declared.trials.Trial.{Trial}
use Rattle.crash_engine.specs.Texts.{crashes_text, ending_by}
use Rattle.crash_engine.specs.declared.ending.CrashStatus.{CrashStatus}
use Rattle.crash_engine.specs.declared.ending.CrashStatus.TheVariants as ending

-- each crash after each of these events was tried, up to the first that is refused, and the text is that of
-- what they leave without any, and of what crashes leave beyond that
pub record TriesFrom (o : Origin) (events : List Event) (e : CrashStatus) (text : List ℕ) : Type 0 where
  pub refusal : Refusal
  pub alone : CrashEnd
  pub trials : List Trial
  pub ends_alone : EndsAlone o events alone
  pub goes : GoesOver o (known_of alone) events refusal trials
  pub ends : e ≡ ending_by alone trials refusal
  pub is : text ≡ crashes_text alone trials refusal

-- the input is a script, with logs ahead of its events or without, and so its crashes were tried
pub record TriesScript (e : CrashStatus) (input text : List ℕ) : Type 0 where
  pub tree : List TreeProcess
  pub logs : Option (List ProcessLog)
  pub events : List Event
  pub script : IsReopenScript input tree logs events
  pub tries : TriesFrom (record { tree = tree; logs = logs }) events e text

-- what is written of an input, by how it ends: the line of the fault that is there, or of the damaged log, or
-- what crashes end with
abbrev pub IsCrashReport : CrashStatus → List ℕ → List ℕ → Type 0
IsCrashReport ending.Refused input text = RefusesInput input text ⊎ TellsLogDamage input text
IsCrashReport ending.Clean input text = TriesScript ending.Clean input text
IsCrashReport ending.Stopped input text = TriesScript ending.Stopped input text
IsCrashReport ending.Finds input text = TriesScript ending.Finds input text
