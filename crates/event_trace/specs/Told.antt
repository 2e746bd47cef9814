-- The trace of a script by its events.
use Rattle.std.specs.Prelude.{◌≡◌, ◌⊎◌, ℕ, Bool, ◌+◌, Option, Some, None, List, [], ◌∷◌, ◌++◌, drop, is_some, length, slice_get, take}
use Rattle.protocol.specs.declared.events.Event.{Event}
use Rattle.protocol.specs.declared.events.StepError.{StepError}
use Rattle.protocol.specs.declared.names.ProcessId.{ProcessId}
use Rattle.protocol.specs.declared.trees.TreeProcess.{TreeProcess}
use Rattle.tree_script.specs.declared.script.ScriptError.TheVariants.{Fault}
use Rattle.tree_script.specs.declared.script.ScriptFault.{ScriptFault}
use Rattle.log_script.specs.declared.line.ProcessLog.{ProcessLog}
use Rattle.reopen_script.specs.Inputs.{IsReopenError, IsReopenScript}
use Rattle.tree_state.specs.Worlds.{Applies, Stops, WorldState}
use Rattle.report_io.specs.declared.status.Status.{Status}
use Rattle.tree_world.specs.Worlds.{state}
use Rattle.proof_runs.specs.worlds.Refusals.{Refusal}
use Rattle.tree_engine.specs.Runs.{BeginsBy, IsDamageBy, IsOwn}
use Rattle.tree_engine.specs.Trees.{ending, last_line, trace_by}
use Rattle.tree_engine.specs.declared.run.Run.{Run}
use Rattle.event_trace.specs.Numbered.{numbered, sent_after, steps_text}

-- These events led a tree from the first state to the next one, N messages were sent then, and the text has
-- grown by the lines of the steps of each event, each line with the number of its event before it: the first
-- event has 1.
pub data Tells (start : WorldState) (sent_before : ℕ) (before : List ℕ) : List Event → WorldState → ℕ → List ℕ
    → Type 0 where
  nothing : Tells start sent_before before [] start sent_before before
  one_more : (es : List Event) (mid : WorldState) (sent : ℕ) (text : List ℕ) (e : Event) (now : WorldState)
      → Tells start sent_before before es mid sent text → Applies mid e now
      → Tells start sent_before before (es ++ e ∷ []) now
      (sent_after sent (drop (length mid.entries) now.entries))
      (text ++ numbered (length es + 1) (steps_text sent mid now))

-- so they do up to the event after N, which is refused for this reason: what it did before that is told, too
pub record TellsUntil (start : WorldState) (sent_before : ℕ) (before : List ℕ)
    (events : List Event) (made : ℕ)
    (why : StepError) (end : WorldState) (text : List ℕ) : Type 0 where
  pub mid : WorldState
  pub sent : ℕ
  pub front : List ℕ
  pub told : Tells start sent_before before (take made events) mid sent front
  pub event : Event
  pub next : slice_get events made ≡ Some event
  pub stops : Stops mid event why end
  pub own : IsOwn why
  pub is : text ≡ front ++ numbered (made + 1) (steps_text sent mid end)

-- so they do, up to the refused one, if one is
abbrev pub TellsTo : WorldState → ℕ → List ℕ → List Event → Refusal → WorldState → List ℕ → Type 0
TellsTo start sent before events None end text = (n : ℕ) × Tells start sent before events end n text
TellsTo start sent before events (Some r) end text = TellsUntil start sent before events r.0 r.1 end text

-- The whole trace of a tree that has just opened in this state, over logs or not, and is given these events:
-- its opening with the number 0, the lines of each event, and the last line without a number.
pub record TellsFrom (over : Bool) (start : WorldState) (events : List Event)
    (status : Status) (text : List ℕ)
    : Type 0 where
  pub refusal : Refusal
  pub end : WorldState
  pub lines : List ℕ
  pub tells : TellsTo start (sent_after 0 start.entries) (numbered 0 (trace_by over start)) events
      refusal end lines
  pub status_is : status ≡ ending refusal
  pub is : text ≡ lines ++ last_line refusal

-- the input is a script of a tree, over logs or over empty ones, and this is its trace by its events
pub record TellsScript (input : List ℕ) (status : Status) (text : List ℕ) : Type 0 where
  pub tree : List TreeProcess
  pub logs : Option (List ProcessLog)
  pub events : List Event
  pub script : IsReopenScript input tree logs events
  pub first : Run
  pub begins : BeginsBy tree logs first
  pub tells : TellsFrom (is_some logs) (state first.world) events status text

-- the input is a script of a tree and of logs, one of which is damaged there
pub record HasDamage (input : List ℕ) : Type 0 where
  pub tree : List TreeProcess
  pub logs : Option (List ProcessLog)
  pub events : List Event
  pub script : IsReopenScript input tree logs events
  pub process : ProcessId
  pub place : ℕ
  pub damaged : IsDamageBy tree logs process place

-- the input is no script, or one of the logs that it begins with is damaged
abbrev pub HasNoTrace : List ℕ → Type 0
HasNoTrace input = ((fault : ScriptFault) × IsReopenError input (Fault fault)) ⊎ HasDamage input
