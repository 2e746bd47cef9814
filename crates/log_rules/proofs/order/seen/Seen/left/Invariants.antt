use Rattle.std.proofs.Common.{◌≡◌, ◌++◌, map, not}
use Rattle.log_rules.specs.order.Orders.{in_doubt_by, opens}
use Rattle.log_rules.proofs.order.seen.Seen.left.Given as goal

abbrev pub invariant-loop-xid : goal.invariant-loop-xid
invariant-loop-xid l = l.left.items ++ map (λ e. (e.0, not (opens e.1.mark)))
    l.xid-iterator ≡ in_doubt_by l.fn.self
