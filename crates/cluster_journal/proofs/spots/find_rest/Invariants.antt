use Rattle.std.proofs.Common.{◌≡◌, ◌≤◌, ◌++◌, drop, length}
use Rattle.cluster_journal.specs.Journals.{KeepsDelivered}
use Rattle.cluster_journal.specs.Spots.{spots_in}
use Rattle.cluster_journal.proofs.spots.find_rest.Given as goal

abbrev pub invariant-loop-entry : goal.invariant-loop-entry
invariant-loop-entry l = record {
  at : l.found ≡ l.entry;
  within : l.found ≤ length l.entries;
  all : l.spots.items ++ spots_in l.turn l.found (drop l.found l.entries)
      ≡ l.fn.spots.items ++ spots_in l.turn l.fn.found (drop l.fn.found l.entries);
  long : length l.marks ≡ length l.spots.items;
  delivered : KeepsDelivered l.fn.marks l.marks;
}
