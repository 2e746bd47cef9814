-- A file that is brought up to a store in memory.
use Rattle.std.specs.Prelude.{◌≡◌, ℕ, List, length, drop}
use Rattle.log_store.specs.Stores.{Appends, Forces, Replaces}
use Rattle.log_file.specs.declared.store.FileStore.{FileStore}
use Rattle.log_file.specs.Stores.{ForcesFile, PutsFile, file_bytes, file_failures, file_forced, file_of}
use Rattle.staged_store.specs.declared.backing.FileBacking.{FileBacking}
use Rattle.staged_store.specs.declared.staged.StagedStore.{StagedStore}
use Rattle.staged_store.specs.Staged.{promised}

module _ {F : Type 0} where
  -- the store over the file
  abbrev pub backing_file : FileBacking F → FileStore F
  backing_file b = b.file

  -- how often the store was replaced, to which it was last brought up
  abbrev pub backing_rewrites : FileBacking F → ℕ
  backing_rewrites b = b.rewrites

  -- in the file stands what the store promised, and nothing else, all of it forced
  pub record Holds (b : FileBacking F) (s : StagedStore) : Type 0 where
    pub text : file_bytes b.file ≡ promised s
    pub all : file_forced b.file ≡ length (promised s)
    pub rewrites : b.rewrites ≡ s.rewrites

  -- what is promised beyond what is in the file was appended, and forced by one block
  pub record AddsPromised (writes : F → F → ℕ → List ℕ → Type 0) (syncs : F → F → Type 0)
      (replaces : F → F → List ℕ → Type 0) (old new : FileBacking F) (more : List ℕ) : Type 0 where
    pub mid : FileStore F
    pub appends : Appends file_bytes file_forced file_failures old.file mid more
    pub forces : Forces file_bytes file_forced file_failures mid new.file
    pub file : ForcesFile writes syncs replaces mid new.file
    pub rewrites : new.rewrites ≡ old.rewrites

  -- a file of all that is promised took the place of the old one
  pub record PutsPromised (replaces : F → F → List ℕ → Type 0) (old new : FileBacking F) (all : List ℕ)
      (rewrites : ℕ) : Type 0 where
    pub puts : Replaces file_bytes file_forced file_failures old.file new.file all
    pub file : PutsFile replaces (file_of old.file) new.file all
    pub counted : new.rewrites ≡ rewrites

  -- What was asked of the file of a store which promised these bytes and was replaced so often.
  pub data Asks (writes : F → F → ℕ → List ℕ → Type 0) (syncs : F → F → Type 0)
      (replaces : F → F → List ℕ → Type 0) (old new : FileBacking F) (all : List ℕ)
      (rewrites : ℕ) : Type 0 where
    -- nothing: as much is forced in the file already
    asks_nothing : new ≡ old → old.rewrites ≡ rewrites → file_forced old.file ≡ length all
        → Asks writes syncs replaces old new all rewrites
    -- one block and one sync, after what is there
    asks_block : old.rewrites ≡ rewrites
        → AddsPromised writes syncs replaces old new (drop (length (file_bytes old.file)) all)
        → Asks writes syncs replaces old new all rewrites
    -- a new file
    asks_file : PutsPromised replaces old new all rewrites → Asks writes syncs replaces old new all rewrites
