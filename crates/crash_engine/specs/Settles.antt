-- The deliveries of a settle.
use Rattle.std.specs.Prelude.{◌≡◌, None, List, [], ◌∷◌, ◌++◌, drop, length}
use Rattle.std.specs.List.{flat_map}
use Rattle.protocol.specs.declared.events.JournalEntry.{JournalEntry}
use Rattle.protocol.specs.declared.events.Event.{Event}
use Rattle.protocol.specs.declared.events.Event.TheVariants.{Deliver, Settle}
use Rattle.protocol.specs.declared.events.Happening.{Happening}
use Rattle.protocol_words.specs.Variants.{Handles, MessageInput}
use Rattle.tree_state.specs.Worlds.{WorldState}
use Rattle.crash_engine.specs.Origins.{PlaysFrom}
use Rattle.crash_engine.specs.declared.origin.Origin.{Origin}

-- the delivery by which this happens, if it is one
abbrev pub delivery_by : Happening → List Event
delivery_by (Handles (MessageInput number message)) = Deliver number ∷ []
delivery_by happening = []

-- the deliveries among these steps, in order
abbrev pub deliveries_in : List JournalEntry → List Event
deliveries_in entries = flat_map (λ e. delivery_by e.step.happening) entries

-- after these events a settle was made, and these are its deliveries
pub record SettlesBy (o : Origin) (events deliveries : List Event) : Type 0 where
  pub before : WorldState
  pub after : WorldState
  pub ran : PlaysFrom o events None before
  pub settled : PlaysFrom o (events ++ Settle ∷ []) None after
  pub are : deliveries ≡ deliveries_in (drop (length before.entries) after.entries)
