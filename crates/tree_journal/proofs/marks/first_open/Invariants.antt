use Rattle.std.proofs.Common.{◌≡◌, true, take, replicate}
use Rattle.tree_journal.proofs.marks.first_open.Given as goal

abbrev pub invariant-loop-place : goal.invariant-loop-place
invariant-loop-place l = take l.place l.marks ≡ replicate l.place true
