use Rattle.std.proofs.Common.{◌≡◌, [], take}
use Rattle.std.specs.List.{fold}
use Rattle.tree_engine.specs.Counts.{counts_of, together}
use Rattle.tree_engine.proofs.rows.RunCounts.total.Given as goal

abbrev pub invariant-loop-row : goal.invariant-loop-row
invariant-loop-row l =
    l.total ≡ fold (λ sum r. together sum r.counts) (counts_of [] []) (take l.row-index l.self)
