use Rattle.std.proofs.Common.{◌≡◌, take}
use Rattle.cluster_tree.specs.Opening.{names_of}
use Rattle.cluster_tree.proofs.opening.names.Given as goal

abbrev pub invariant-loop-entry : goal.invariant-loop-entry
invariant-loop-entry l = l.names.items ≡ names_of (take l.entry-index l.tree)
