use Rattle.std.proofs.Common.{rules}
use Rattle.std.proofs.lemmas.List.Sorted.{IsPartitionPoint-from_clause}
use Rattle.kv_store.specs.Versions.{is_up_to}
use Rattle.kv_store.proofs.Values.{rising_is_partitioned}
use Rattle.kv_store.proofs.version.place_of.Goals as goal

pub returns : goal.returns
returns c = (
  c.partition_point.ensures.bound,
  IsPartitionPoint-from_clause (is_up_to c.args.count) c.args.versions.now c.partition_point.result
      c.partition_point.ensures.partitioned
      (rising_is_partitioned c.args.count 0 c.args.versions.now c.requires) (λ a r f' called. search rules),
)
