-- What the calls of a store do, over its bytes, the length of their forced front and the failures of its
-- device.
use Rattle.std.specs.Prelude.{◌≡◌, ◌≤◌, ◌<◌, ◌+◌, ◌-◌, ◌^◌, ◌⊎◌, ℕ, List, ◌++◌, length, take, min}

-- more failures were counted, where the count was not at its top
abbrev pub MoreFailures : ℕ → ℕ → Type 0
MoreFailures old new = min (old + 1) (2 ^ 64 - 1) ≤ new

-- the store is as it was
pub record SameStore {S : Type 0} (bytes : S → List ℕ) (forced failures : S → ℕ) (old new : S) : Type 0 where
  pub bytes_stay : bytes new ≡ bytes old
  pub forced_stays : forced new ≡ forced old
  pub failures_stay : failures new ≡ failures old

-- memory was refused if there was no room for N bytes, and nothing changed
pub record MemoryRefuses {S : Type 0} (bytes : S → List ℕ) (forced failures : S → ℕ) (old new : S)
    (room size : ℕ) : Type 0 where
  pub small : room < size
  pub same : SameStore bytes forced failures old new

-- the bytes are at the end, not forced
pub record Appends {S : Type 0} (bytes : S → List ℕ) (forced failures : S → ℕ) (old new : S)
    (more : List ℕ) : Type 0 where
  pub text : bytes new ≡ bytes old ++ more
  pub forced_stays : forced new ≡ forced old
  pub failures_stay : failures new ≡ failures old

-- the device failed, and a front of the bytes came to it
pub record AppendBreaks {S : Type 0} (bytes : S → List ℕ) (forced failures : S → ℕ) (old new : S)
    (more : List ℕ) : Type 0 where
  pub came : ℕ
  pub text : bytes new ≡ bytes old ++ take came more
  pub forced_stays : forced new ≡ forced old
  pub cause : MoreFailures (failures old) (failures new)

-- all that stands is forced
pub record Forces {S : Type 0} (bytes : S → List ℕ) (forced failures : S → ℕ) (old new : S) : Type 0 where
  pub text : bytes new ≡ bytes old
  pub all : forced new ≡ length (bytes old)
  pub failures_stay : failures new ≡ failures old

-- the device failed, and the forced front did not shrink
pub record ForceBreaks {S : Type 0} (bytes : S → List ℕ) (forced failures : S → ℕ)
    (old new : S) : Type 0 where
  pub text : bytes new ≡ bytes old
  pub no_less : forced old ≤ forced new
  pub cause : MoreFailures (failures old) (failures new)

-- the new bytes stand alone, all of them forced
pub record Replaces {S : Type 0} (bytes : S → List ℕ) (forced failures : S → ℕ) (old new : S)
    (text : List ℕ) : Type 0 where
  pub text_stands : bytes new ≡ text
  pub all : forced new ≡ length text
  pub failures_stay : failures new ≡ failures old

-- the device failed: the old bytes with the old front, or the new ones
pub record ReplaceBreaks {S : Type 0} (bytes : S → List ℕ) (forced failures : S → ℕ) (old new : S)
    (text : List ℕ) : Type 0 where
  pub either : ((bytes new ≡ bytes old) × (forced new ≡ forced old))
      ⊎ ((bytes new ≡ text) × (forced new ≡ length text))
  pub cause : MoreFailures (failures old) (failures new)

-- of what is not forced at most N bytes are left, and the forced front is as it was
pub record Crashes {S : Type 0} (bytes : S → List ℕ) (forced failures : S → ℕ) (old new : S)
    (keep : ℕ) : Type 0 where
  pub text : bytes new ≡ take (forced old + keep) (bytes old)
  pub front : forced new ≡ forced old
  pub failures_stay : failures new ≡ failures old
