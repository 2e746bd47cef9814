-- Runs of trees that were opened over logs.
use Rattle.std.specs.Prelude.{◌≡◌, ⊤, ℕ, Bool, Option, Some, None, List, ◌++◌, map, slice_get}
use Rattle.protocol.specs.declared.messages.Envelope.{Envelope}
use Rattle.protocol.specs.declared.events.Event.{Event}
use Rattle.protocol.specs.declared.events.Event.TheVariants.{Deliver, Settle}
use Rattle.protocol.specs.declared.events.StepError.{StepError}
use Rattle.protocol.specs.declared.names.ProcessId.{ProcessId}
use Rattle.protocol.specs.declared.records.LogRecord.{LogRecord}
use Rattle.protocol.specs.declared.trees.TreeProcess.{TreeProcess}
use Rattle.protocol.specs.Plays.{sent_as}
use Rattle.protocol.specs.World.{Continues, IsRun, Made, World}
use Rattle.proof_runs.specs.worlds.Refusals.{IsForItself, LeadsTo, Refusal, RefusesDelivery, RefusesEvent}
use Rattle.tree_state.specs.Runs.{IsOpenedTree}
use Rattle.tree_state.specs.Worlds.{WorldState, least_open}
use Rattle.log_script.specs.declared.line.ProcessLog.{ProcessLog}
use Rattle.log_script.specs.Logs.{bytes_of}
use Rattle.proof_reopened.specs.Reopened.{AreLogsLeft, IsReopened}
use Rattle.proof_reopened.specs.Since.{FollowsSince, KeepsBoth}
use Rattle.tree_world.specs.Reopenings.{TreeNotReopened, logs_in}
use Rattle.tree_world.specs.declared.reopening.TreeReopenError.TheVariants.{Damaged}
use Rattle.tree_engine.specs.Trees.{Plays}

-- the bytes of the log of each process of a tree
abbrev pub bytes_in : List TreeProcess → List ProcessLog → List (List ℕ)
bytes_in tree logs = map (λ e. bytes_of logs e.id) tree

-- bytes, of which it is asked what a store's are
abbrev pub these : List ℕ → List ℕ
these bytes = bytes

-- they never failed
abbrev pub never : List ℕ → ℕ
never bytes = 0

-- the records of each process's log
abbrev pub records_by : List TreeProcess → List ProcessLog → ProcessId → List LogRecord
records_by tree logs = logs_in these tree (bytes_in tree logs)

-- the log of this process is damaged there, as bytes or as a log of the process in this tree
abbrev pub IsDamage : List TreeProcess → List ProcessLog → ProcessId → ℕ → Type 0
IsDamage tree logs process place = TreeNotReopened these never tree (bytes_in tree logs)
    (Damaged process place)

-- the model refuses to deliver the message with this number among these, which is the next one of a settle
abbrev pub RefusesNextSince : List TreeProcess → World → List Envelope → Option ℕ → StepError → Type 0
RefusesNextSince tree w sent None e = ⊥
RefusesNextSince tree w sent (Some k) e = RefusesDelivery tree w k (sent_as sent k) e

-- the model refuses the event so, where these messages were sent since the tree was opened over logs, and
-- these of them delivered: a delivery of the message that has the number among them
abbrev pub RefusesSince : List TreeProcess → World → List Envelope → List Bool → Event → StepError → Type 0
RefusesSince tree w sent delivered (Deliver k) e = RefusesDelivery tree w k (sent_as sent k) e
RefusesSince tree w sent delivered Settle e = RefusesNextSince tree w sent (least_open 1 delivered) e
RefusesSince tree w sent delivered event e = RefusesEvent tree w delivered event e

-- the event after those that were made is one that the model refuses so in this world, which the state stands
-- for
pub record RefusesThere (tree : List TreeProcess) (w : World) (end : WorldState)
    (events : List Event) (made : ℕ)
    (e : StepError) : Type 0 where
  pub event : Event
  pub next : slice_get events made ≡ Some event
  pub refused : RefusesSince tree w end.net end.delivered event e

-- the refused event, if there is one, is such an event
abbrev pub RefusesAfter : List TreeProcess → World → WorldState → List Event → Refusal → Type 0
RefusesAfter tree w end events None = ⊤
RefusesAfter tree w end events (Some refused) = RefusesThere tree w end events refused.0 refused.1

-- The state stands for a run that goes on from these moves: first every process went down by a crash, and
-- then came what was made since. Both parts are one run, of which the headline holds, and each End of the
-- root in the later part reports mismatches truly. A refused event is one that the model refuses there by
-- that number.
pub record GoesOnFrom (tree : List TreeProcess) (es : List Made) (w : World) (events : List Event)
    (refusal : Refusal)
    (end : WorldState) : Type 0 where
  pub crashes : List Made
  pub down : World
  pub crash : Continues tree w crashes down
  pub later : List Made
  pub world : World
  pub follows : FollowsSince (record { moves = crashes ++ es; world = down }) later world end
  pub keeps : KeepsBoth (record { moves = crashes ++ es; world = down }) later world end follows
  pub refuses : RefusesAfter tree world end events refusal

-- a tree was opened over these logs, and these events led it, up to the refused one, to this state; the
-- refused one was refused for itself; and from each run, whichever version made each of its moves, of which
-- these logs are what a crash leaves, the state goes on
pub record Replays (tree : List TreeProcess) (logs : List ProcessLog) (events : List Event)
    (refusal : Refusal)
    (end : WorldState) : Type 0 where
  pub start : WorldState
  pub reopens : IsReopened tree (records_by tree logs) start
  pub leads : LeadsTo start events refusal end
  pub itself : IsForItself refusal
  pub tree_is : end.tree ≡ tree
  pub goes_on : (es : List Made) (w : World) → IsRun tree es w → AreLogsLeft tree w (records_by tree logs)
      → GoesOnFrom tree es w events refusal end

-- With logs and without.

-- a tree that has opened over these logs, or over empty ones
abbrev pub StartsBy : List TreeProcess → Option (List ProcessLog) → WorldState → Type 0
StartsBy tree None start = IsOpenedTree start tree
StartsBy tree (Some logs) start = IsReopened tree (records_by tree logs) start

-- such a tree, and these events led it to this state
abbrev pub PlaysBy : List TreeProcess → Option (List ProcessLog) → List Event → Refusal → WorldState → Type 0
PlaysBy tree None events refusal end = Plays tree events refusal end
PlaysBy tree (Some logs) events refusal end = Replays tree logs events refusal end
