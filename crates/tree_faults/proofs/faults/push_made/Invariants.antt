use Rattle.std.proofs.Common.{◌≡◌, ◌-◌, ◌++◌, drop, take}
use Rattle.tree_faults.proofs.faults.push_made.Given as goal

abbrev pub invariant-loop-place : goal.invariant-loop-place
invariant-loop-place l = l.trace.items
    ≡ l.initial.trace.items ++ take (l.place - l.start) (drop l.start l.journal.entries)
