use Rattle.std.proofs.Common.{◌≡◌, map, take}
use Rattle.log_records.specs.Sights.{record_size}
use Rattle.tree_process.proofs.unforced.sizes_of.Given as goal

abbrev pub invariant-loop-record : goal.invariant-loop-record
invariant-loop-record l = l.sizes.items ≡ map record_size (take l.record-index l.records)
