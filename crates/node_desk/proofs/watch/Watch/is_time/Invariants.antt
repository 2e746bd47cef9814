use Rattle.std.proofs.Common.{◌≡◌}
use Rattle.node_desk.proofs.watch.Watch.is_time.Given as goal

-- waiting reads nothing
abbrev pub invariant-loop : goal.invariant-loop
invariant-loop g l = g.R.Read.remaining l.reader ≡ g.R.Read.remaining l.fn.reader
