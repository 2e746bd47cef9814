use Rattle.std.proofs.Common.{◌≡◌, length}
use Rattle.log_rules.specs.order.Orders.{keys_free, promises}
use Rattle.log_rules.proofs.order.seen.Seen.keys_free.Given as goal

abbrev pub invariant-loop-rest : goal.invariant-loop-rest
invariant-loop-rest l = keys_free (promises l.fn.self) l.fn.writes ≡ keys_free (promises l.fn.self) l.rest

abbrev pub decreases-loop-rest : goal.decreases-loop-rest
decreases-loop-rest l = length l.rest
