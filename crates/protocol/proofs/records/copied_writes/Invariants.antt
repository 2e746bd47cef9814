use Rattle.std.proofs.Common.{◌≡◌, take}
use Rattle.protocol.proofs.records.copied_writes.Given as goal

abbrev pub invariant-loop-write : goal.invariant-loop-write
invariant-loop-write l = l.copy.items ≡ take l.write-index l.writes
