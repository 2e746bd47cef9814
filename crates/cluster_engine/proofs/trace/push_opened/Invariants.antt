use Rattle.std.proofs.Common.{◌≡◌, ◌++◌, take}
use Rattle.tree_engine.specs.Trees.{opened_text}
use Rattle.cluster_engine.proofs.trace.push_opened.Given as goal

abbrev pub invariant-loop-entry : goal.invariant-loop-entry
invariant-loop-entry l = l.out.items ≡ l.initial.out.items ++ opened_text (take l.entry-index l.tree)
