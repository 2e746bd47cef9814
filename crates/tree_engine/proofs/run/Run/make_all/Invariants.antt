use Rattle.std.proofs.Common.{◌≡◌, List, ◌++◌, take}
use Rattle.protocol.specs.declared.events.Event.{Event}
use Rattle.tree_state.specs.Worlds.{WorldState}
use Rattle.tree_engine.specs.Runs.{HasCome}
use Rattle.tree_engine.proofs.run.Run.make_all.Given as goal

abbrev pub invariant-loop-event : goal.invariant-loop-event
invariant-loop-event l =
    ((start : WorldState) (given : List Event) → HasCome start given l.initial.self
    → HasCome start (given ++ take l.event-index l.events) l.self)
    × (l.self.world.reopened ≡ l.initial.self.world.reopened)
