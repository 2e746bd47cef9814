-- A store over a file: what is in it, and what its calls ask of the file.
use Rattle.std.specs.Prelude.{◌≡◌, ◌⊎◌, ℕ, List, [], ◌∷◌, length, drop, false, true}
use Rattle.log_store.specs.Stores.{MoreFailures}
use Rattle.file_blocks.specs.Blocks.{behind, block_text}
use Rattle.file_blocks.specs.Files.{file_text}
use Rattle.log_file.specs.declared.store.FileStore.{FileStore}

module _ {F : Type 0} where
  -- its file
  abbrev pub file_of : FileStore F → F
  file_of s = s.file

  -- the bytes that are in it
  abbrev pub file_bytes : FileStore F → List ℕ
  file_bytes s = s.bytes.items

  -- the length of their forced front
  abbrev pub file_forced : FileStore F → ℕ
  file_forced s = s.forced

  -- how often its device has failed
  abbrev pub file_failures : FileStore F → ℕ
  file_failures s = s.failures

  -- but for the file nothing changed
  pub record SameButFile (old new : FileStore F) : Type 0 where
    pub number : new.number ≡ old.number
    pub end : new.end ≡ old.end
    pub bytes : new.bytes ≡ old.bytes
    pub forced : new.forced ≡ old.forced
    pub failures : new.failures ≡ old.failures
    pub stale : new.stale ≡ old.stale

  -- what was not forced was written to the file, in one block after the others, and then the file was synced
  pub record WritesBlock (writes : F → F → ℕ → List ℕ → Type 0) (syncs : F → F → Type 0)
      (old new : FileStore F) (end : ℕ) : Type 0 where
    pub mid : F
    pub written : writes old.file mid old.end
        (block_text old.number old.end (drop old.forced old.bytes.items))
    pub synced : syncs mid new.file
    pub behind_it : end ≡ behind old.end (drop old.forced old.bytes.items)

  -- all that stands was written so, or nothing had to be
  pub record AddsBlock (writes : F → F → ℕ → List ℕ → Type 0) (syncs : F → F → Type 0)
      (old new : FileStore F) : Type 0 where
    pub by : ((length old.bytes.items ≡ old.forced) × (new.file ≡ old.file) × (new.end ≡ old.end))
        ⊎ WritesBlock writes syncs old new new.end
    pub number : new.number ≡ old.number
    pub fresh : old.stale ≡ false
    pub stays : new.stale ≡ false

  -- a file of these bytes alone, in one block, took the file's place
  pub record PutsFile (replaces : F → F → List ℕ → Type 0) (old : F) (new : FileStore F)
      (text : List ℕ) : Type 0 where
    pub put : replaces old new.file (file_text new.number (text ∷ []))
    pub end : new.end ≡ behind 48 text
    pub fresh : new.stale ≡ false

  -- what a force did: what was not forced is in one block more; or, where the file may have held other bytes
  -- than the store, a new file of all that stands took its place
  abbrev pub ForcesFile : (F → F → ℕ → List ℕ → Type 0) → (F → F → Type 0) → (F → F → List ℕ → Type 0)
      → FileStore F → FileStore F → Type 0
  ForcesFile writes syncs replaces old new =
      AddsBlock writes syncs old new
      ⊎ ((old.stale ≡ true) × PutsFile replaces old.file new old.bytes.items)

  -- what a close did: what was not forced was forced, and then one block more was written, an empty one
  pub record ClosesFile (writes : F → F → ℕ → List ℕ → Type 0) (syncs : F → F → Type 0)
      (replaces : F → F → List ℕ → Type 0) (old new : FileStore F) : Type 0 where
    pub mid : FileStore F
    pub forced : ForcesFile writes syncs replaces old mid
    pub all : mid.forced ≡ length mid.bytes.items
    pub empty : WritesBlock writes syncs mid new new.end
    pub number : new.number ≡ mid.number

  -- a failure of the device was counted, and nothing else changed; the file may hold other bytes than the
  -- store
  pub record Fails (old new : FileStore F) : Type 0 where
    pub bytes : new.bytes ≡ old.bytes
    pub forced : new.forced ≡ old.forced
    pub counted : MoreFailures old.failures new.failures
    pub stale : new.stale ≡ true
