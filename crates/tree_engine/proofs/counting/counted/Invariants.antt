use Rattle.std.proofs.Common.{◌≡◌, take}
use Rattle.tree_engine.specs.Counts.{rows_of}
use Rattle.tree_world.specs.Worlds.{state}
use Rattle.tree_engine.proofs.counting.counted.Given as goal

abbrev pub invariant-loop-place : goal.invariant-loop-place
invariant-loop-place l = l.counts ≡ rows_of (state l.world).tree (take l.place (state l.world).entries)
