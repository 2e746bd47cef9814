-- Trees that are opened over the logs of an earlier run.
use Rattle.std.specs.Prelude.{◌≡◌, ℕ, Some, List}
use Rattle.protocol.specs.declared.names.ProcessId.{ProcessId}
use Rattle.protocol.specs.declared.events.Event.{Event}
use Rattle.protocol.specs.declared.events.StepError.{StepError}
use Rattle.protocol.specs.declared.records.LogRecord.{LogRecord}
use Rattle.protocol.specs.declared.trees.TreeProcess.{TreeProcess}
use Rattle.protocol.specs.Trees.{IsTree}
use Rattle.protocol.specs.World.{IsRun, Made, World}
use Rattle.tree_state.specs.Worlds.{Applies, Stops, WorldState}
use Rattle.tree_state.specs.Runs.{EventsLead, LeadsUntil}
use Rattle.proof_runs.specs.worlds.Follows.{FollowsBehindFaults}
use Rattle.log_records.specs.Sights.{left_by}
use Rattle.process_state.specs.States.{CoreState}
use Rattle.proof_lives.specs.Lives.{LifeStep}
use Rattle.proof_reopened.specs.Earlier.{Earlier}
use Rattle.proof_reopened.specs.Since.{FollowsSince, GoesOnSince, KeepsBoth}
use Rattle.proof_reopened.specs.Reopened.{AreLogsLeft, GoesOnReopened, IsReopened}

-- from each run, by whichever version each move of it was made, that left these logs, the tree that was
-- opened over them goes on
abbrev pub ReopenedTreesGoOn : Type 0
ReopenedTreesGoOn = (tree : List TreeProcess) (logs : ProcessId → List LogRecord) (s : WorldState)
    (es : List Made) (w : World)
    → IsTree tree → IsReopened tree logs s → IsRun tree es w → AreLogsLeft tree w logs → GoesOnReopened es w s

-- each log has what a crash leaves of its process that keeps N bytes after the forced front
abbrev pub AreCut : WorldState → (ProcessId → ℕ) → (ProcessId → List LogRecord) → Type 0
AreCut s keep logs = (q : ProcessId) (c : CoreState) → s.node_at q ≡ Some c → logs q ≡ left_by c.log (keep q)

-- what a tree's own crash leaves of its logs is left by the run that it stands for: whether it was opened
-- over empty logs, or over those of an earlier run
abbrev pub OwnLogsAreLeft : Type 0
OwnLogsAreLeft = (s : WorldState) (keep : ProcessId → ℕ) (logs : ProcessId → List LogRecord)
    (es : List Made) (w : World)
    → FollowsBehindFaults es w s → AreCut s keep logs → AreLogsLeft s.tree w logs

abbrev pub OwnLogsSinceAreLeft : Type 0
OwnLogsSinceAreLeft = (o : Earlier) (s : WorldState) (keep : ProcessId → ℕ)
    (logs : ProcessId → List LogRecord)
    (es : List Made) (w : World) → FollowsSince o es w s → AreCut s keep logs → AreLogsLeft s.tree w logs

-- and what an event makes of it, or leaves where it is refused, goes on from there
abbrev pub EventsGoOn : Type 0
EventsGoOn = (o : Earlier) (s t : WorldState) (event : Event) (es : List Made) (w : World) → IsTree s.tree
    → FollowsSince o es w s → Applies s event t → GoesOnSince o es w t

abbrev pub RefusalsGoOn : Type 0
RefusalsGoOn = (o : Earlier) (s t : WorldState) (event : Event) (e : StepError) (es : List Made) (w : World)
    → IsTree s.tree → FollowsSince o es w s → Stops s event e t → GoesOnSince o es w t

abbrev pub ListsGoOn : Type 0
ListsGoOn = (o : Earlier) (s t : WorldState) (events : List Event) (es : List Made) (w : World)
    → IsTree s.tree
    → FollowsSince o es w s → EventsLead s events t → GoesOnSince o es w t

abbrev pub RefusedListsGoOn : Type 0
RefusedListsGoOn = (o : Earlier) (s t : WorldState) (events : List Event) (n : ℕ) (e : StepError)
    (es : List Made)
    (w : World) → IsTree s.tree → FollowsSince o es w s → LeadsUntil s events n e t → GoesOnSince o es w t

-- so does a step of one of its programs, where each process is one of its own
abbrev pub LifeStepsGoOn : Type 0
LifeStepsGoOn = (o : Earlier) (s t : WorldState) (es : List Made) (w : World) → IsTree s.tree
    → FollowsSince o es w s
    → LifeStep s t → GoesOnSince o es w t

-- both parts are one run, of which the headline holds, and mismatches are reported in the later part
abbrev pub BothPartsKeep : Type 0
BothPartsKeep = (o : Earlier) (s : WorldState) (es : List Made) (w : World) → IsTree s.tree
    → (f : FollowsSince o es w s) → KeepsBoth o es w s f
