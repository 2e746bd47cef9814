use Rattle.std.proofs.Common.{take}
use Rattle.kv_store.specs.Pairs.{AreSet}
use Rattle.kv_store.proofs.versions.Versions.from_pairs.Given as goal

abbrev pub invariant-loop-key : goal.invariant-loop-key
invariant-loop-key l = AreSet l.versions l.fn.count (take l.key-index l.fn.pairs)
