use Rattle.std.proofs.Common.{◌≡◌, take}
use Rattle.kv_store.proofs.writes.list.copied.Given as goal

abbrev pub invariant-loop-write : goal.invariant-loop-write
invariant-loop-write l = l.copy.items ≡ take l.write-index l.fn.writes
