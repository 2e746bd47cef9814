use Rattle.std.proofs.Common.{◌≡◌, ◌++◌, drop}
use Rattle.kv_store.specs.Pairs.{pairs_at}
use Rattle.kv_store.proofs.Sorted.{keys}
use Rattle.kv_store.proofs.data_pairs.pairs_at.Given as goal

abbrev pub invariant-loop-i : goal.invariant-loop-i
invariant-loop-i l =
    l.pairs.items ++ pairs_at l.fn.versions (keys (drop l.i l.keys)) ≡ pairs_at l.fn.versions (keys l.keys)
