use Rattle.std.proofs.Common.{◌≤◌, length}
use Rattle.picture_layout.specs.Ways.{SitFrom}
use Rattle.picture_layout.proofs.seats.+sit_below.Given as goal

abbrev pub invariant-loop-entry : goal.invariant-loop-entry
invariant-loop-entry l = record {
  few : length l.seats.items ≤ length l.tree;
  order : SitFrom 0 l.initial.seats.items → SitFrom 0 l.seats.items;
}

abbrev pub decreases-sit_below : goal.decreases-sit_below
decreases-sit_below l = l.levels
