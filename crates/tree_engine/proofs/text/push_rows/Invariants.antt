use Rattle.std.proofs.Common.{◌≡◌, ◌++◌, take}
use Rattle.tree_engine.specs.Texts.{rows_text}
use Rattle.tree_engine.proofs.text.push_rows.Given as goal

abbrev pub invariant-loop-row : goal.invariant-loop-row
invariant-loop-row l = l.out.items ≡ l.initial.out.items ++ rows_text (take l.row-index l.row-items)
