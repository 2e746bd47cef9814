-- What each run of a script begins with.
use Rattle.std.specs.Prelude.{◌≡◌, ℕ, Option, Some, None, List}
use Rattle.protocol.specs.declared.events.Event.{Event}
use Rattle.protocol.specs.declared.names.ProcessId.{ProcessId}
use Rattle.protocol.specs.declared.trees.TreeProcess.{TreeProcess}
use Rattle.proof_runs.specs.worlds.Refusals.{Refusal}
use Rattle.tree_state.specs.Worlds.{WorldState}
use Rattle.log_script.specs.declared.line.ProcessLog.{ProcessLog}
use Rattle.report_io.specs.declared.streams.Failure.{Failure}
use Rattle.report_io.specs.declared.streams.Failure.TheVariants.{Device}
use Rattle.tree_engine.specs.declared.run.Run.{Run}
use Rattle.tree_engine.specs.Reopened.{PlaysBy, StartsBy}
use Rattle.tree_engine.specs.Runs.{BeginsBy, IsDamageBy}
use Rattle.crash_engine.specs.declared.origin.Origin.{Origin}

-- a run of its tree, which has just opened over its logs, or over empty ones
abbrev pub Opens : Origin → Run → Type 0
Opens o run = BeginsBy o.tree o.logs run

-- the state of such a tree
abbrev pub StartsFrom : Origin → WorldState → Type 0
StartsFrom o start = StartsBy o.tree o.logs start

-- its tree opened, and these events led it to this state
abbrev pub PlaysFrom : Origin → List Event → Refusal → WorldState → Type 0
PlaysFrom o events refusal end = PlaysBy o.tree o.logs events refusal end

-- the state from which they led it
abbrev pub start_by : (tree : List TreeProcess) (logs : Option (List ProcessLog)) (events : List Event)
    (refusal : Refusal) (end : WorldState) → PlaysBy tree logs events refusal end → WorldState
start_by tree None events refusal end plays = plays.start
start_by tree (Some logs) events refusal end plays = plays.start

-- one of its logs is damaged there
abbrev pub IsDamagedAt : Origin → ProcessId → ℕ → Type 0
IsDamagedAt o process place = IsDamageBy o.tree o.logs process place

-- its tree does not open, since one of its logs is damaged; where it opened before, this is told as a failed
-- device
abbrev pub OpensNot : Origin → Failure → Type 0
OpensNot o why = (why ≡ Device) × (process : ProcessId) × (place : ℕ) × IsDamagedAt o process place
