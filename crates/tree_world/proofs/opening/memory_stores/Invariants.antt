use Rattle.std.proofs.Common.{◌≡◌, [], All, length}
use Rattle.log_store.specs.Memory.{memory_bytes}
use Rattle.tree_world.proofs.opening.memory_stores.Given as goal

abbrev pub invariant-loop : goal.invariant-loop
invariant-loop l = record {
  count : length l.stores.items ≡ l.counter;
  empty : All (λ store. memory_bytes store ≡ []) l.stores.items;
}
