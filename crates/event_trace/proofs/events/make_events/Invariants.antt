use Rattle.std.proofs.Common.{◌≡◌, take}
use Rattle.tree_world.specs.Worlds.{state}
use Rattle.event_trace.specs.Told.{Tells}
use Rattle.event_trace.proofs.events.make_events.Given as goal

abbrev pub invariant-loop-event : goal.invariant-loop-event
invariant-loop-event l =
    Tells (state l.initial.world) l.sent l.initial.out.items (take l.event-index l.events)
    (state l.world) l.total
    l.out.items
    × (l.made ≡ l.event-index)
