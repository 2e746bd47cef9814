use Rattle.std.proofs.Common.{◌≡◌, map, take}
use Rattle.log_store.specs.Memory.{memory_bytes}
use Rattle.tree_engine.specs.Reopened.{bytes_in}
use Rattle.tree_engine.proofs.run.stores_of.Given as goal

abbrev pub invariant-loop-entry : goal.invariant-loop-entry
invariant-loop-entry l = map memory_bytes l.stores.items ≡ bytes_in (take l.entry-index l.entries) l.logs
