use Rattle.std.proofs.Common.{◌≡◌, take}
use Rattle.tree_process.proofs.opening.copied_tree.Given as goal

abbrev pub invariant-loop-entry : goal.invariant-loop-entry
invariant-loop-entry l = l.copy.items ≡ take l.entry-index l.tree
