use Rattle.std.proofs.Common.{◌≡◌, ◌++◌, drop, length}
use Rattle.tree_faults.specs.Faults.{AreInOrder, woven}
use Rattle.tree_faults.proofs.faults.Faults.trace.Given as goal

abbrev pub invariant-loop-failed : goal.invariant-loop-failed
invariant-loop-failed l = AreInOrder l.made (drop l.failed-index l.failed-items) (length l.journal.entries)
    × (l.trace.items ++ woven l.made (drop l.made l.journal.entries) (drop l.failed-index l.failed-items)
    ≡ woven 0 l.journal.entries l.failed-items)
