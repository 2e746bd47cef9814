use Rattle.std.proofs.Common.{◌≡◌, map, take}
use Rattle.tree_world.specs.Worlds.{logs_at, running_state}
use Rattle.tree_world.proofs.running_tree.RunningTree.add_logs.Given as goal

abbrev pub invariant-loop-entry : goal.invariant-loop-entry
invariant-loop-entry g l = map (λ log. log.items) l.logs.items
    ≡ logs_at (running_state l.self) (take l.entry-index l.entry-items)
