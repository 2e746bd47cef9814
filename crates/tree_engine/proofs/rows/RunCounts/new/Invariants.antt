use Rattle.std.proofs.Common.{◌≡◌, [], map, take}
use Rattle.tree_engine.specs.Counts.{row_of}
use Rattle.tree_engine.proofs.rows.RunCounts.new.Given as goal

abbrev pub invariant-loop-entry : goal.invariant-loop-entry
invariant-loop-entry l = l.rows.items ≡ map (row_of []) (take l.entry-index l.processes)
