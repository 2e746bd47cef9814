use Rattle.std.proofs.Common.{length}
use Rattle.key_lists.specs.Tables.{table_of}
use Rattle.kv_locks.proofs.Tables.{IsReleasing}
use Rattle.kv_locks.proofs.locks.release_each.Given as goal

abbrev pub invariant-loop-rest : goal.invariant-loop-rest
invariant-loop-rest l = IsReleasing (table_of l.fn.holders.entries)
    (table_of l.holders.entries) l.rest l.fn.xid

abbrev pub decreases-loop-rest : goal.decreases-loop-rest
decreases-loop-rest l = length l.rest
