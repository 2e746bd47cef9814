-- What the model refuses, and what a whole run comes to.
use Rattle.std.specs.Prelude.{◌≡◌, ◌≢◌, ⊤, ℕ, Bool, Option, Some, None, List, slice_get, if◌then◌else◌}
use Rattle.protocol.specs.declared.names.ProcessId.{ProcessId}
use Rattle.protocol.specs.declared.messages.Envelope.{Envelope}
use Rattle.protocol.specs.declared.events.Event.{Event}
use Rattle.protocol.specs.declared.events.Event.TheVariants.{Deliver, Settle, Restart, Trim}
use Rattle.protocol_words.specs.Variants.{ActInput, ActOf, MessageInput, Restarting, Trimming}
use Rattle.protocol.specs.declared.events.Input.{Input}
use Rattle.protocol.specs.declared.events.StepError.{StepError}
use Rattle.protocol.specs.declared.events.StepError.TheVariants.{Memory, Device, NoSuch, Exhausted}
use Rattle.protocol.specs.declared.trees.TreeProcess.{TreeProcess}
use Rattle.protocol.specs.Nodes.{DataAnswer, is_listed, place_of}
use Rattle.protocol.specs.Plays.{process_of_act, sent_as}
use Rattle.protocol.specs.Trees.{root_of}
use Rattle.protocol.specs.Outcomes.{Headline}
use Rattle.protocol.specs.World.{Made, Makes, Move, Refuses, Stepped, World, node_makes}
use Rattle.proof_reports.specs.SecondRuns.{EndsReported}
use Rattle.tree_state.specs.Steps.{quiet_move, input_move}
use Rattle.tree_state.specs.Worlds.{WorldState, least_open}
use Rattle.tree_state.specs.Runs.{EventsLead, LeadsUntil}
use Rattle.proof_runs.specs.worlds.Follows.{Follows}

-- why a move is refused, if it is
abbrev pub refusal_in : Stepped → Option StepError
refusal_in (Refuses e) = Some e
refusal_in (Makes e n) = None

-- why the model refuses a move: its process is not listed, or refuses it
abbrev pub model_refusal : List TreeProcess → World → Move → Option StepError
model_refusal tree w m =
    let q = m.step.process in
    if is_listed tree q then refusal_in (node_makes (place_of tree q) (w.at q) m) else Some NoSuch

-- the model refuses the input at this process so, whatever the data of the process answer
abbrev pub RefusesSo : List TreeProcess → World → ProcessId → Input → StepError → Type 0
RefusesSo tree w q i e = (d : DataAnswer) → model_refusal tree w (input_move q i None d) ≡ Some e

-- the model refuses to deliver this message with this number: there is none, or its process refuses it
abbrev pub RefusesDelivery : List TreeProcess → World → ℕ → Option Envelope → StepError → Type 0
RefusesDelivery tree w k None e = e ≡ NoSuch
RefusesDelivery tree w k (Some l) e = RefusesSo tree w l.to (MessageInput k l.message) e

-- the model refuses to deliver the message with this number, which is the next one of a settle
abbrev pub RefusesNextDelivery : List TreeProcess → World → Option ℕ → StepError → Type 0
RefusesNextDelivery tree w None e = ⊥
RefusesNextDelivery tree w (Some k) e = RefusesDelivery tree w k (sent_as w.net k) e

-- the model refuses the event so, where these messages were delivered: a settle at the first message that was
-- not; a restart whichever records it keeps
abbrev pub RefusesEvent : List TreeProcess → World → List Bool → Event → StepError → Type 0
RefusesEvent tree w delivered (ActOf a) e = RefusesSo tree w (process_of_act (root_of tree) a) (ActInput a) e
RefusesEvent tree w delivered (Deliver k) e = RefusesDelivery tree w k (sent_as w.net k) e
RefusesEvent tree w delivered Settle e = RefusesNextDelivery tree w (least_open 1 delivered) e
RefusesEvent tree w delivered (Restart q bytes) e = (k : ℕ)
    → model_refusal tree w (quiet_move q (Restarting k) None) ≡ Some e
RefusesEvent tree w delivered (Trim q) e = model_refusal tree w (quiet_move q Trimming None) ≡ Some e

-- the event after those that were made is one that the model refuses so, where these messages were delivered
pub record RefusesNext (tree : List TreeProcess) (w : World) (delivered : List Bool) (events : List Event)
    (made : ℕ) (e : StepError) : Type 0 where
  pub event : Event
  pub next : slice_get events made ≡ Some event
  pub refused : RefusesEvent tree w delivered event e

-- how many events were made, and why the next was refused; or none was
abbrev pub Refusal : Type 0
Refusal = Option (ℕ × StepError)

-- these events led one state to another: all of them, or those before the refused one
abbrev pub LeadsTo : WorldState → List Event → Refusal → WorldState → Type 0
LeadsTo start events None end = EventsLead start events end
LeadsTo start events (Some refused) end = LeadsUntil start events refused.0 refused.1 end

-- the refused event, if there is one, was refused for itself: not for memory or for numbers that are used up,
-- nor because a device failed
abbrev pub IsForItself : Refusal → Type 0
IsForItself None = ⊤
IsForItself (Some refused) = (refused.1 ≢ Memory) × (refused.1 ≢ Device) × (refused.1 ≢ Exhausted)

-- the refused event, if there is one, is refused so by the model, where these messages were delivered
abbrev pub RefusesIn : List TreeProcess → World → List Bool → List Event → Refusal → Type 0
RefusesIn tree w delivered events None = ⊤
RefusesIn tree w delivered events (Some refused) = RefusesNext tree w delivered events refused.0 refused.1

-- what the events come to is a run of the model, of which the headline holds and in which mismatches are
-- reported, and a refused event is one that it refuses
pub record IsRunOf (tree : List TreeProcess) (events : List Event) (refusal : Refusal)
    (end : WorldState) : Type 0 where
  pub moves : List Made
  pub world : World
  pub tree_is : end.tree ≡ tree
  pub follows : Follows moves world end
  pub headline : Headline tree moves world
  pub mismatches_are_reported : EndsReported end.tree moves world follows.is_run
  pub refuses : RefusesIn tree world end.delivered events refusal
