-- Traces, in which the steps stand that were made, and those in which a device failed.
use Rattle.std.specs.Prelude.{◌≡◌, ◌≢◌, ℕ, List, [], ◌++◌, ◌∷◌}
use Rattle.protocol.specs.declared.events.JournalEntry.{JournalEntry}
use Rattle.protocol.specs.declared.events.Event.{Event}
use Rattle.protocol.specs.declared.events.StepError.{StepError}
use Rattle.protocol.specs.declared.events.StepError.TheVariants.{Device}
use Rattle.protocol.specs.declared.trees.TreeProcess.{TreeProcess}
use Rattle.protocol.specs.Outcomes.{Headline}
use Rattle.protocol.specs.Trees.{IsTree}
use Rattle.protocol.specs.World.{Made, World, opened_world}
use Rattle.tree_state.specs.Runs.{IsOpenedTree, EventsLead, LeadsUntil}
use Rattle.proof_runs.specs.worlds.Follows.{Follows, GoesOn}
use Rattle.tree_state.specs.Worlds.{Applies, Stops, WorldState}
use Rattle.proof_failures.specs.Fails.{FailsAfter, FailsAt}

-- the state with this trace in place of the steps that were entered
abbrev pub with_trace : WorldState → List JournalEntry → WorldState
with_trace s xs = record s { entries = xs }

-- From these moves, of which this is the trace, the run goes on to the later state: its trace then has what
-- was entered since, and these steps after that.
pub record TraceGoesOn (es : List Made) (w : World) (old : WorldState) (trace : List JournalEntry)
    (new : WorldState)
    (more : List JournalEntry) : Type 0 where
  pub entered : List JournalEntry
  pub grown : new.entries ≡ old.entries ++ entered
  pub goes_on : GoesOn es w (with_trace new ((trace ++ entered) ++ more))

-- a tree whose processes have opened empty logs has the trace of the run with no moves
abbrev pub OpenedHaveNoTrace : Type 0
OpenedHaveNoTrace = (tree : List TreeProcess) (s : WorldState) → IsOpenedTree s tree
    → Follows [] opened_world (with_trace s [])

-- an event that was made lengthens the trace by what was entered
abbrev pub TracesGoOn : Type 0
TracesGoOn = (s t : WorldState) (event : Event) (es : List Made) (w : World) (trace : List JournalEntry)
    → IsTree s.tree
    → Follows es w (with_trace s trace) → Applies s event t → TraceGoesOn es w s trace t []

-- so does one that was refused, of what it had delivered, if no device failed
abbrev pub TracesStop : Type 0
TracesStop = (s t : WorldState) (event : Event) (e : StepError) (es : List Made) (w : World)
    (trace : List JournalEntry)
    → IsTree s.tree → e ≢ Device → Follows es w (with_trace s trace) → Stops s event e t
    → TraceGoesOn es w s trace t []

-- where a device failed, the entry of that step is in the trace after it
abbrev pub TracesShowFaults : Type 0
TracesShowFaults = (s t : WorldState) (event : Event) (x : JournalEntry) (es : List Made) (w : World)
    (trace : List JournalEntry)
    → IsTree s.tree → Follows es w (with_trace s trace) → FailsAt s event t x
    → TraceGoesOn es w s trace t (x ∷ [])

-- a list of events that were made lengthens the trace by what was entered
abbrev pub TracesLead : Type 0
TracesLead = (s t : WorldState) (events : List Event) (es : List Made) (w : World) (trace : List JournalEntry)
    → IsTree s.tree → Follows es w (with_trace s trace) → EventsLead s events t
    → TraceGoesOn es w s trace t []

-- so does one of which an event was refused, if no device failed
abbrev pub TracesLeadUntil : Type 0
TracesLeadUntil = (s t : WorldState) (events : List Event) (n : ℕ) (e : StepError)
    (es : List Made) (w : World)
    (trace : List JournalEntry) → IsTree s.tree → e ≢ Device → Follows es w (with_trace s trace)
    → LeadsUntil s events n e t
    → TraceGoesOn es w s trace t []

-- where a device failed in the event that was refused, the entry of that step is after the others
abbrev pub TracesFailAfter : Type 0
TracesFailAfter = (s t : WorldState) (events : List Event) (n : ℕ) (x : JournalEntry)
    (es : List Made) (w : World)
    (trace : List JournalEntry) → IsTree s.tree → Follows es w (with_trace s trace)
    → FailsAfter s events n t x
    → TraceGoesOn es w s trace t (x ∷ [])

-- what so ends is refused, since the device failed
abbrev pub FaultsStop : Type 0
FaultsStop = (s t : WorldState) (event : Event) (x : JournalEntry) → FailsAt s event t x
    → Stops s event Device t

-- the headline holds of a run that has this trace
abbrev pub TracesKeepHeadline : Type 0
TracesKeepHeadline = (s : WorldState) (es : List Made) (w : World) (trace : List JournalEntry) → IsTree s.tree
    → Follows es w (with_trace s trace) → Headline s.tree es w
