use Rattle.std.proofs.Common.{◌≡◌, take}
use Rattle.std.specs.List.{fold}
use Rattle.xa_xid.specs.Digests.{mixed_bytes}
use Rattle.xa_xid.proofs.part.XidPart.digest.Given as goal

abbrev pub invariant-loop-bytes : goal.invariant-loop-bytes
invariant-loop-bytes l = l.digest ≡ fold mixed_bytes l.initial.digest (take l.bytes-index l.bytes-items)
