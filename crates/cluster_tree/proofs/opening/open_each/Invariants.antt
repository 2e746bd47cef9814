use Rattle.cluster_tree.specs.Opening.{KeepsSeats}
use Rattle.cluster_tree.proofs.opening.open_each.Given as goal

abbrev pub invariant-loop-place : goal.invariant-loop-place
invariant-loop-place g l = KeepsSeats g.N.Seats.table l.tree l.place l.fn.journal.me.0.journal.given l.journal
