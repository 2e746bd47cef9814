use Rattle.std.proofs.Common.{◌&&◌, ap}
use Rattle.protocol.specs.Names.{same_process}
use Rattle.cluster_journal.proofs.queues.is_open_to.Goals as goal

pub returns-then-is_open : goal.returns-then-is_open
unfolding same_process
returns-then-is_open c = ap (λ b. b && same_process c.args.to c.args.message.to) c.if-is_open.ensures
