-- The bytes that are in a store.
use Rattle.std.specs.Prelude.{ℕ, ◌≡◌, ◌≤◌, List, length, take}
use Rattle.short_bytes.specs.declared.bytes.Store.{Store}
use Rattle.short_bytes.specs.declared.bytes.Store.TheVariants.{Short, Long}

-- the bytes of a store, in order
abbrev pub stored : Store → List ℕ
stored (Short n places) = take n places
stored (Long bytes) = bytes.value.items

-- no more bytes are in place than have one
abbrev pub IsSound : Store → Type 0
IsSound (Short n places) = (n ≤ 14) × (length places ≡ 14)
IsSound (Long bytes) = Unit {0}
