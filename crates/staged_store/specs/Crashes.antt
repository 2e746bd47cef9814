-- What a crash leaves of a file that is being brought up to a store.
use Rattle.std.specs.Prelude.{◌≡◌, ◌<◌, ◌^◌, ◌⊎◌, ℕ, List, [], ◌∷◌, ◌++◌, length, take}
use Rattle.file_blocks.specs.Files.{Holds, IsDamaged, file_number, file_text}
use Rattle.file_blocks.specs.Laws.{IsFileLeft}
use Rattle.log_file.specs.declared.store.FileStore.{FileStore}
use Rattle.log_file.specs.Disks.{OnDisk, unforced}
use Rattle.log_file.specs.Stores.{file_bytes, file_forced}
use Rattle.staged_store.specs.declared.staged.StagedStore.{StagedStore}
use Rattle.staged_store.specs.Staged.{promised}

module _ {F : Type 0} where
  -- The file is between two stores: on the disk is what the first one promised, and what the second one
  -- promised beyond that is to be forced by one block.
  pub record Between (f : FileStore F) (a b : StagedStore) (first : List ℕ)
      (others : List (List ℕ)) : Type 0 where
    pub disk : OnDisk f first others
    pub before : take (file_forced f) (file_bytes f) ≡ promised a
    pub after : file_bytes f ≡ promised b

  -- Whatever a crash leaves of such a file is not damaged, and it holds what the first store promised, or
  -- what the second one did: all steps that were made between them are in it, or none.
  abbrev pub GroupsStandOrNot : FileStore F → Type 0
  GroupsStandOrNot f = (a b : StagedStore) (first : List ℕ) (others : List (List ℕ)) (bytes : List ℕ)
      → f.number < 2 ^ 64
      → length (file_text f.number (first ∷ (others ++ unforced f ∷ []))) < 2 ^ 64
      → Between f a b first others
      → IsFileLeft f.number first others (unforced f) bytes
      → (IsDamaged bytes (file_number bytes) → ⊥)
      × ((m : ℕ) (held : List ℕ) → m < 2 ^ 64 → Holds bytes m held → (held ≡ promised a)
      ⊎ (held ≡ promised b))
