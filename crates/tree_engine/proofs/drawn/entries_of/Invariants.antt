use Rattle.std.proofs.Common.{◌≡◌, take}
use Rattle.tree_world.specs.Worlds.{state}
use Rattle.tree_engine.proofs.drawn.entries_of.Given as goal

abbrev pub invariant-loop-place : goal.invariant-loop-place
invariant-loop-place l = l.entries.items ≡ take l.place (state l.world).entries
