-- A store in memory.
use Rattle.std.specs.Prelude.{ℕ, List}
use Rattle.log_store.specs.declared.memory.MemoryStore.{MemoryStore}

-- the bytes that are in it
abbrev pub memory_bytes : MemoryStore → List ℕ
memory_bytes s = s.bytes.items

-- the length of their forced front
abbrev pub memory_forced : MemoryStore → ℕ
memory_forced s = s.forced
