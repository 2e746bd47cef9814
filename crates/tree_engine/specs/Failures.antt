-- Why a run ends without a text, where memory was not refused and neither reading nor writing failed.
use Rattle.std.specs.Prelude.{◌≡◌, ◌⊎◌, ◌+◌, ◌≤◌, ◌^◌, ℕ, Option, Some, None, List, length}
use Rattle.std.specs.List.{flat_map}
use Rattle.protocol.specs.declared.events.JournalEntry.{JournalEntry}
use Rattle.protocol.specs.declared.events.Event.{Event}
use Rattle.protocol.specs.declared.events.StepError.{StepError}
use Rattle.protocol.specs.declared.trees.TreeProcess.{TreeProcess}
use Rattle.tree_script.specs.Inputs.{AsksFirst, LinesState}
use Rattle.log_script.specs.declared.line.ProcessLog.{ProcessLog}
use Rattle.reopen_script.specs.Inputs.{IsOpenReopen, IsReopenScript}
use Rattle.proof_runs.specs.worlds.Refusals.{Refusal}
use Rattle.tree_state.specs.Runs.{LeadsUntil}
use Rattle.tree_state.specs.Worlds.{WorldState}
use Rattle.picture_layout.specs.Long.{IsLong}
use Rattle.report_io.specs.declared.streams.Failure.{Failure}
use Rattle.report_io.specs.declared.streams.Failure.TheVariants.{Device, Exhausted}
use Rattle.tree_engine.specs.declared.tree.TreeOutput.{TreeOutput}
use Rattle.tree_engine.specs.declared.tree.TreeOutput.TheVariants.{Counts, Logs, Picture, Trace}
use Rattle.tree_engine.specs.Counts.{Fit, rows_of, total_of}
use Rattle.tree_engine.specs.Reopened.{PlaysBy, StartsBy}
use Rattle.tree_engine.specs.Runs.{ComesTo, IsFailure}

-- Events.

-- one of these events, made one after another from this state on, is not made for this reason
pub record BreaksOff (start : WorldState) (events : List Event) (why : Failure) : Type 0 where
  pub made : ℕ
  pub refusal : StepError
  pub end : WorldState
  pub until : LeadsUntil start events made refusal end
  pub fails : IsFailure refusal why

-- these events cannot all be made for this reason: one of them is not, or they are 2^64 or more
abbrev pub CannotMake : WorldState → List Event → Failure → Type 0
CannotMake start events why =
    BreaksOff start events why ⊎ ((why ≡ Exhausted) × (2 ^ 64 ≤ length events))

-- The input is a script as far as its lines, of these logs or of none. The first of the lines after them ask
-- for events of which one, in a tree that has opened over these logs, is not made for this reason.
pub record ScriptBreaksOff (input : List ℕ) (why : Failure) : Type 0 where
  pub tree : List TreeProcess
  pub logs : Option (List ProcessLog)
  pub lines : LinesState
  pub script : IsOpenReopen input tree logs lines
  pub count : ℕ
  pub events : List Event
  pub asks : AsksFirst lines count events
  pub start : WorldState
  pub opens : StartsBy tree logs start
  pub breaks : BreaksOff start events why

-- What is written.

-- how many messages were sent in these steps
abbrev pub message_count : List JournalEntry → ℕ
message_count es = length (flat_map (λ e. e.reaction.messages) es)

-- after N messages those of this step, if there is one, come to 2^64 or more
abbrev pub PassesLast : ℕ → Option JournalEntry → Type 0
PassesLast sent None = ⊥
PassesLast sent (Some e) = 2 ^ 64 ≤ sent + length e.reaction.messages

-- a sum of what the processes wrote and sent is 2^64 or more
abbrev pub IsUncounted : WorldState → Type 0
IsUncounted w = Fit (total_of (rows_of w.tree w.entries)) → ⊥

-- numbers are used up for what is written of a state, to which these events led: its messages come to 2^64 or
-- more, or a sum of its counts does, or its picture would be too long
abbrev pub IsBeyond : TreeOutput → List Event → WorldState → Type 0
IsBeyond Trace events w = 2 ^ 64 ≤ message_count w.entries
IsBeyond Logs events w = 2 ^ 64 ≤ message_count w.entries
IsBeyond Counts events w = (2 ^ 64 ≤ message_count w.entries) ⊎ IsUncounted w
IsBeyond Picture events w = IsLong w.tree (length events) w.entries

-- these events led the tree, opened over these logs or over empty ones, to a state of which nothing is
-- written, for numbers are used up
pub record CannotTell (output : TreeOutput) (tree : List TreeProcess) (logs : Option (List ProcessLog))
    (events : List Event) : Type 0 where
  pub refusal : Refusal
  pub end : WorldState
  pub plays : PlaysBy tree logs events refusal end
  pub beyond : IsBeyond output events end

-- the input is a script of such a tree, such logs and such events
pub record ScriptIsBeyond (output : TreeOutput) (input : List ℕ) : Type 0 where
  pub tree : List TreeProcess
  pub logs : Option (List ProcessLog)
  pub events : List Event
  pub script : IsReopenScript input tree logs events
  pub beyond : CannotTell output tree logs events

-- these events led to a state from this one, whose picture would be too long
pub record DrawsTooLong (start : WorldState) (events : List Event) : Type 0 where
  pub refusal : Refusal
  pub count : ℕ
  pub end : WorldState
  pub come : ComesTo start events refusal count end
  pub long : IsBeyond Picture events end

-- why nothing is written of an input
abbrev pub CannotReport : TreeOutput → List ℕ → Failure → Type 0
CannotReport output input why =
    ScriptBreaksOff input why ⊎ ((why ≡ Exhausted) × ScriptIsBeyond output input)

-- a device failed, or numbers are used up
abbrev pub IsStop : Failure → Type 0
IsStop e = (e ≡ Device) ⊎ (e ≡ Exhausted)
