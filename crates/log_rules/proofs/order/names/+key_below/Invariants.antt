use Rattle.std.proofs.Common.{length}
use Rattle.log_rules.proofs.order.names.+key_below.Given as goal

abbrev pub decreases-key_below : goal.decreases-key_below
decreases-key_below l = length l.one.now
