use Rattle.std.proofs.Common.{◌≡◌, take}
use Rattle.tree_world.specs.Worlds.{state}
use Rattle.picture_parts.specs.Counted.{Counts}
use Rattle.picture_parts.proofs.events.make_events.Given as goal

abbrev pub invariant-loop-event : goal.invariant-loop-event
invariant-loop-event l =
    Counts (state l.initial.world) (take l.event-index l.events) (state l.world) l.counts.items
    × (l.made ≡ l.event-index)
