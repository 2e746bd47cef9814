-- A store in memory, what it promised, and how it goes on.
use Rattle.std.specs.Prelude.{◌≡◌, ◌≤◌, ℕ, List, take}
use Rattle.staged_store.specs.declared.staged.StagedStore.{StagedStore}

-- the bytes that are in it
abbrev pub staged_bytes : StagedStore → List ℕ
staged_bytes s = s.bytes.items

-- the length of their forced front
abbrev pub staged_forced : StagedStore → ℕ
staged_forced s = s.forced

-- how often it could not be replaced any more
abbrev pub staged_failures : StagedStore → ℕ
staged_failures s = s.failures

-- how often other bytes took the place of all that stood
abbrev pub staged_rewrites : StagedStore → ℕ
staged_rewrites s = s.rewrites

-- what it promised: the forced front of its bytes
abbrev pub promised : StagedStore → List ℕ
promised s = take s.forced s.bytes.items

-- what was promised is still promised, and is in front
pub record Grows (old new : StagedStore) : Type 0 where
  pub no_less : old.forced ≤ new.forced
  pub front : take old.forced new.bytes.items ≡ promised old

-- The store went on from the one to the other: it was replaced no less often; and if no more often, it grew.
pub record Continues (old new : StagedStore) : Type 0 where
  pub rewrites : old.rewrites ≤ new.rewrites
  pub grows : new.rewrites ≡ old.rewrites → Grows old new

-- a store goes on from itself, and on from where it went
pub record StoresContinue (s : StagedStore) : Type 0 where
  pub stays : Continues s s
  pub goes_on : (old new : StagedStore) → Continues old s → Continues s new → Continues old new
