use Rattle.std.proofs.Common.{◌≡◌}
use Rattle.tree_state.specs.Worlds.{Settles}
use Rattle.tree_world.specs.Worlds.{running_state}
use Rattle.tree_world.proofs.running_tree.RunningTree.settle.Given as goal

abbrev pub invariant-loop : goal.invariant-loop
invariant-loop g l = Settles l.counter (running_state l.initial.self) (running_state l.self)
    × (l.self.faults ≡ l.initial.self.faults)
