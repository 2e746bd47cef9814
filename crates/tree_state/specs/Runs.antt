-- Lists of events, and how a tree that runs begins.
use Rattle.std.specs.Prelude.{◌≡◌, ℕ, Some, is_some, List, [], ◌∷◌, take, slice_get}
use Rattle.protocol.specs.declared.names.ProcessId.{ProcessId}
use Rattle.protocol.specs.declared.events.Event.{Event}
use Rattle.protocol.specs.declared.events.StepError.{StepError}
use Rattle.protocol.specs.declared.trees.TreeProcess.{TreeProcess}
use Rattle.protocol.specs.Nodes.{is_listed, place_of}
use Rattle.process_state.specs.States.{CoreState}
use Rattle.process_state.specs.Opening.{IsOpenedProcess}
use Rattle.resource_manager.specs.Data.{DataRests, no_data}
use Rattle.tree_state.specs.Worlds.{Applies, Stops, WorldState}

-- the events were made, one after another
abbrev pub EventsLead : WorldState → List Event → WorldState → Type 0
EventsLead old [] new = new ≡ old
EventsLead old (e ∷ es) new = (mid : WorldState) × Applies old e mid × EventsLead mid es new

-- N events were made, and the next was not, for this error
pub record LeadsUntil (old : WorldState) (events : List Event) (n : ℕ) (e : StepError)
    (new : WorldState) : Type 0 where
  pub event : Event
  pub next : slice_get events n ≡ Some event
  pub before : WorldState
  pub leads : EventsLead old (take n events) before
  pub stops : Stops before event e new

-- a process of the tree has opened an empty log
pub record NodeOpened (tree : List TreeProcess) (q : ProcessId) (s : CoreState) : Type 0 where
  pub failures : ℕ
  pub opened : IsOpenedProcess s (place_of tree q) failures

-- every process has opened an empty log, and no manager has data
pub record IsOpenedTree (w : WorldState) (tree : List TreeProcess) : Type 0 where
  pub tree_is : w.tree ≡ tree
  pub nodes : (q : ProcessId) (s : CoreState) → w.node_at q ≡ Some s → NodeOpened tree q s
  pub listed : (q : ProcessId) → is_some (w.node_at q) ≡ is_listed tree q
  pub holdings : (q : ProcessId) → DataRests no_data (w.data_at q)
  pub net : w.net ≡ []
  pub delivered : w.delivered ≡ []
  pub entries : w.entries ≡ []
