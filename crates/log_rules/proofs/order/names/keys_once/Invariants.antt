use Rattle.std.proofs.Common.{◌≡◌, length}
use Rattle.log_rules.specs.order.Orders.{keys_once}
use Rattle.log_rules.proofs.order.names.keys_once.Given as goal

abbrev pub invariant-loop-rest : goal.invariant-loop-rest
invariant-loop-rest l = keys_once l.fn.writes ≡ keys_once l.rest

abbrev pub decreases-loop-rest : goal.decreases-loop-rest
decreases-loop-rest l = length l.rest
