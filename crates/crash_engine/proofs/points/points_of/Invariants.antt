use Rattle.std.proofs.Common.{◌≡◌, take}
use Rattle.std.specs.List.{flat_map}
use Rattle.tree_world.specs.Worlds.{state}
use Rattle.crash_engine.specs.Points.{points_at, sizes_at}
use Rattle.crash_engine.proofs.points.points_of.Given as goal

abbrev pub invariant-loop-entry : goal.invariant-loop-entry
invariant-loop-entry l =
    l.points.items ≡ flat_map (λ e. points_at e.id (sizes_at (state l.world) e.id))
    (take l.entry-index l.entry-items)
