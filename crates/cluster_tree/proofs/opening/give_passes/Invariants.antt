use Rattle.std.proofs.Common.{◌≡◌}
use Rattle.cluster_tree.specs.Opening.{KeepsSeats}
use Rattle.cluster_tree.specs.Passes.{new_passes}
use Rattle.cluster_tree.proofs.opening.give_passes.Given as goal

abbrev pub invariant-loop-caller : goal.invariant-loop-caller
invariant-loop-caller g l = record {
  seats : KeepsSeats g.N.Seats.table l.tree 0 l.caller l.journal;
  passes : l.passes.items ≡ new_passes l.caller;
}
