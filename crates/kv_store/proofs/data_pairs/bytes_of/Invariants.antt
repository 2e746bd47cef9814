use Rattle.std.proofs.Common.{◌≡◌, map, take, List, ℕ, Bor}
use Rattle.std.specs.Global.{Vec}
use Rattle.kv_store.proofs.data_pairs.bytes_of.Given as goal

abbrev pub invariant-loop-key : goal.invariant-loop-key
invariant-loop-key l =
    map (λ (k : Bor (List ℕ)). k.now) l.bytes.items
    ≡ map (λ (k : Vec ℕ). k.items) (take l.key-index l.keys)
