use Rattle.std.proofs.Common.{◌≡◌, ◌++◌, drop}
use Rattle.log_script.specs.Trees.{tree_text}
use Rattle.log_script.proofs.writing.push_tree.Given as goal

abbrev pub invariant-loop-entry : goal.invariant-loop-entry
invariant-loop-entry l = l.out.items ++ tree_text (drop l.entry-index l.entries) ≡ l.initial.out.items
    ++ tree_text l.entries
