use Rattle.std.proofs.Common.{length}
use Rattle.log_rules.proofs.order.Holders.{IsListing}
use Rattle.log_rules.proofs.order.seen.list_keys.Given as goal

abbrev pub invariant-loop-rest : goal.invariant-loop-rest
invariant-loop-rest l = IsListing l.fn.holders.entries l.holders.entries l.fn.writes l.rest l.fn.xid

abbrev pub decreases-loop-rest : goal.decreases-loop-rest
decreases-loop-rest l = length l.rest
