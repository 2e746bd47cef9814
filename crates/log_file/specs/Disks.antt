-- What the disk has of a store's file, and what a crash leaves of it.
use Rattle.std.specs.Prelude.{◌≡◌, ◌≤◌, ◌<◌, ◌^◌, ℕ, false, List, [], ◌∷◌, ◌++◌, length, take, drop}
use Rattle.std.specs.List.{concat}
use Rattle.log_store.specs.Stores.{Forces}
use Rattle.file_blocks.specs.Blocks.{behind_all, block_text}
use Rattle.file_blocks.specs.Files.{Holds, IsDamaged, file_number, file_text}
use Rattle.file_blocks.specs.Laws.{IsFileLeft}
use Rattle.log_file.specs.declared.store.FileStore.{FileStore}
use Rattle.log_file.specs.Stores.{AddsBlock, PutsFile, file_bytes, file_failures, file_forced}

module _ {F : Type 0} where
  -- what is not forced
  abbrev pub unforced : FileStore F → List ℕ
  unforced s = drop s.forced s.bytes.items

  -- These blocks of the store's file are on the disk. They hold what is forced, and the next one begins after
  -- them.
  pub record OnDisk (s : FileStore F) (first : List ℕ) (others : List (List ℕ)) : Type 0 where
    pub fresh : s.stale ≡ false
    pub end : s.end ≡ behind_all 48 (first ∷ others)
    pub safe : concat (first ∷ others) ≡ take s.forced s.bytes.items

  -- A file that took another's place with all that is in this store is on the disk.
  abbrev pub PutsAreOnDisk : (F → F → List ℕ → Type 0) → FileStore F → Type 0
  PutsAreOnDisk replaces new = (old : F) (text : List ℕ) → PutsFile replaces old new text
      → new.bytes.items ≡ text
      → new.forced ≡ length text → OnDisk new text []

  -- A force of another store that comes to this one leaves the blocks that were on the disk, and all that
  -- stands is there.
  abbrev pub ForcesAreOnDisk : (F → F → ℕ → List ℕ → Type 0) → (F → F → Type 0) → FileStore F → Type 0
  ForcesAreOnDisk writes syncs new = (old : FileStore F) (first : List ℕ) (others : List (List ℕ))
      → old.forced ≤ length old.bytes.items → OnDisk old first others → AddsBlock writes syncs old new
      → Forces file_bytes file_forced file_failures old new
      → (more : List (List ℕ)) × OnDisk new first (others ++ more)

  -- A block that is written where the next one begins is in the file after those that are on the disk.
  abbrev pub BlocksStandAfterThem : FileStore F → Type 0
  BlocksStandAfterThem s = (first : List ℕ) (others : List (List ℕ)) → OnDisk s first others
      → (s.end ≡ length (file_text s.number (first ∷ others)))
      × (file_text s.number (first ∷ others) ++ block_text s.number s.end (unforced s)
      ≡ file_text s.number (first ∷ (others ++ unforced s ∷ [])))

  -- A file keeps what was forced: whatever a crash leaves of it, within a force or not, it is not damaged,
  -- and it holds a front of what stood in the store, with all that was forced.
  abbrev pub KeepsWhatWasForced : FileStore F → Type 0
  KeepsWhatWasForced s = (first : List ℕ) (others : List (List ℕ)) (bytes : List ℕ) → s.number < 2 ^ 64
      → length (file_text s.number (first ∷ (others ++ unforced s ∷ []))) < 2 ^ 64
      → s.forced ≤ length s.bytes.items → OnDisk s first others
      → IsFileLeft s.number first others (unforced s) bytes
      → (IsDamaged bytes (file_number bytes) → ⊥)
      × ((m : ℕ) (held : List ℕ) → m < 2 ^ 64 → Holds bytes m held
      → (k : ℕ) × (file_forced s ≤ k) × (held ≡ take k (file_bytes s)))
