use Rattle.std.proofs.Common.{◌≤◌, List, ◌++◌, length, take}
use Rattle.protocol.specs.declared.events.Event.{Event}
use Rattle.tree_state.specs.Worlds.{WorldState}
use Rattle.tree_engine.specs.Runs.{HasCome}
use Rattle.tree_engine.proofs.drawn.make_turns.Given as goal

abbrev pub invariant-loop-event : goal.invariant-loop-event
invariant-loop-event l =
    ((start : WorldState) (given : List Event) → HasCome start given l.initial.run
    → HasCome start (given ++ take l.event-index l.events) l.run)
    × (length l.turns.items ≤ l.event-index)
