-- The trace of a tree that runs: its journal with the steps in which a device failed among the others.
use Rattle.std.specs.Prelude.{◌≡◌, ⊤, ℕ, Bool, true, false, List, [], ◌∷◌, ◌++◌, length}
use Rattle.protocol.specs.declared.events.JournalEntry.{JournalEntry}
use Rattle.protocol.specs.declared.events.Event.{Event}
use Rattle.protocol.specs.declared.events.StepError.{StepError}
use Rattle.protocol.specs.declared.events.StepError.TheVariants.{Device}
use Rattle.protocol.specs.World.{Made, World}
use Rattle.proof_runs.specs.worlds.Follows.{Follows, GoesOn}
use Rattle.tree_state.specs.Worlds.{WorldState}
use Rattle.proof_failures.specs.Fails.{FailsAfter, FailsAt}
use Rattle.proof_failures.specs.Traces.{with_trace}
use Rattle.tree_faults.specs.Faults.{AreInOrder, FaultsSight, failed_entries, last_step, woven}

-- the entry of the last fault, where what it left is not counted yet
abbrev pub last_in : WorldState → FaultsSight → List JournalEntry
last_in s f = failed_entries (last_step s.net s.node_at f.last)

-- the trace: the steps that were made, with each fault after those that were made before it
abbrev pub trace_by : WorldState → FaultsSight → List JournalEntry
trace_by s f = woven 0 s.entries f.counted ++ last_in s f

-- the faults are in the order of the steps that were made before them
abbrev pub AreInPlace : WorldState → FaultsSight → Type 0
AreInPlace s f = AreInOrder 0 f.counted (length s.entries)

-- what was entered and these steps after it are added to the trace
pub record AddsToTrace (old : WorldState) (f : FaultsSight) (new : WorldState) (g : FaultsSight)
    (more : List JournalEntry)
    : Type 0 where
  pub entered : List JournalEntry
  pub grown : new.entries ≡ old.entries ++ entered
  pub trace : trace_by new g ≡ (trace_by old f ++ entered) ++ more

-- where the device failed in an event, the entry of that step is in the trace after what was entered
pub record ShowsFault (old : WorldState) (f : FaultsSight) (event : Event) (new : WorldState)
    (g : FaultsSight)
    : Type 0 where
  pub entry : JournalEntry
  pub fails : FailsAt old event new entry
  pub adds : AddsToTrace old f new g (entry ∷ [])

-- what an event that was not made adds to the trace: what it had delivered, and the fault if a device failed
abbrev pub AddsUntil : WorldState → FaultsSight → Event → WorldState → FaultsSight → StepError → Type 0
AddsUntil old f event new g Device = ShowsFault old f event new g
AddsUntil old f event new g _ = AddsToTrace old f new g []

-- the device failed in the event after N that were made, and the entry of that step is in the trace after
-- what was entered
pub record ShowsFaultAfter (old : WorldState) (f : FaultsSight) (events : List Event) (n : ℕ)
    (new : WorldState)
    (g : FaultsSight) : Type 0 where
  pub entry : JournalEntry
  pub fails : FailsAfter old events n new entry
  pub adds : AddsToTrace old f new g (entry ∷ [])

-- what is added where the event after N that were made was not made
abbrev pub AddsAfter : WorldState → FaultsSight → List Event → WorldState → FaultsSight → ℕ → StepError
    → Type 0
AddsAfter old f events new g n Device = ShowsFaultAfter old f events n new g
AddsAfter old f events new g n _ = AddsToTrace old f new g []

-- What is noted of a fault, before what it left is counted.

-- the device failed in an event, and the fault is noted
pub record NotesFault (old : WorldState) (f : FaultsSight) (event : Event) (new : WorldState)
    (g : FaultsSight)
    : Type 0 where
  pub counted : g.counted ≡ f.counted
  pub entry : JournalEntry
  pub last : last_in new g ≡ entry ∷ []
  pub fails : FailsAt old event new entry

-- what an event that was not made leaves of the faults: where a device failed it is noted, and else they stay
abbrev pub NotedUntil : WorldState → FaultsSight → Event → WorldState → FaultsSight → StepError → Type 0
NotedUntil old f event new g Device = NotesFault old f event new g
NotedUntil old f event new g _ = g ≡ f

-- Runs.

-- from each run whose steps the first trace has, whole, the second has those of one that goes on
abbrev pub TraceGoesOnFrom : WorldState → List JournalEntry → WorldState → List JournalEntry → Type 0
TraceGoesOnFrom old before new behind = (es : List Made) (w : World) → Follows es w (with_trace old before)
    → GoesOn es w (with_trace new behind)

-- the state of a tree stands for a run whose steps the trace has, whole
pub record TraceIsRun (s : WorldState) (trace : List JournalEntry) : Type 0 where
  pub moves : List Made
  pub world : World
  pub follows : Follows moves world (with_trace s trace)

-- what is kept of a trace: it is a run of a tree that was opened over empty logs
abbrev pub KeepsTrace : Bool → WorldState → List JournalEntry → Type 0
KeepsTrace false s trace = TraceIsRun s trace
KeepsTrace true s trace = ⊤
