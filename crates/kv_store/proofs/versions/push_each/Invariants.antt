use Rattle.std.proofs.Common.{length}
use Rattle.key_lists.specs.Tables.{table_of}
use Rattle.kv_store.proofs.Stages.{IsAdding}
use Rattle.kv_store.proofs.versions.push_each.Given as goal

abbrev pub invariant-loop-rest : goal.invariant-loop-rest
invariant-loop-rest l = IsAdding (table_of l.fn.keys.entries) (table_of l.keys.entries)
    l.fn.count l.fn.writes l.rest

abbrev pub decreases-loop-rest : goal.decreases-loop-rest
decreases-loop-rest l = length l.rest
