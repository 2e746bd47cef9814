use Rattle.std.proofs.Common.{◌≡◌, length}
use Rattle.log_rules.specs.order.Orders.{names_key}
use Rattle.log_rules.proofs.order.names.names_key.Given as goal

abbrev pub invariant-loop-rest : goal.invariant-loop-rest
invariant-loop-rest l = names_key l.fn.writes l.fn.key ≡ names_key l.rest l.fn.key

abbrev pub decreases-loop-rest : goal.decreases-loop-rest
decreases-loop-rest l = length l.rest
