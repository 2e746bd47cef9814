use Rattle.std.proofs.Common.{take}
use Rattle.tree_world.specs.Worlds.{state}
use Rattle.tree_world.specs.LogsLeft.{LogsStand}
use Rattle.tree_world.proofs.byte_logs.logs_stand.Given as goal

abbrev pub invariant-loop-entry : goal.invariant-loop-entry
invariant-loop-entry g l = LogsStand (state l.world) (take l.entry-index l.entry-items)
