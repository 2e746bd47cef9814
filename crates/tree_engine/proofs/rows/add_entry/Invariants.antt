use Rattle.std.proofs.Common.{◌≡◌, ◌++◌, map, take, drop}
use Rattle.tree_engine.specs.Counts.{row_behind}
use Rattle.tree_engine.proofs.rows.add_entry.Given as goal

abbrev pub invariant-loop-row : goal.invariant-loop-row
invariant-loop-row l =
    l.rows ≡ map (row_behind l.entry) (take l.row-index l.initial.rows) ++ drop l.row-index l.initial.rows
