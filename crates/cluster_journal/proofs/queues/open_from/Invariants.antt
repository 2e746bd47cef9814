use Rattle.std.proofs.Common.{length}
use Rattle.cluster_journal.proofs.Chains.{IsReached, left}
use Rattle.cluster_journal.proofs.queues.open_from.Given as goal

abbrev pub invariant-loop-next : goal.invariant-loop-next
invariant-loop-next l = IsReached l.to l.marks l.lowest l.next

abbrev pub decreases-loop-next : goal.decreases-loop-next
decreases-loop-next l = left (length l.marks) l.next
