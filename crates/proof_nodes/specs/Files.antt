-- What a node leaves in its file, and what the next one finds there.
use Rattle.std.specs.Prelude.{◌≡◌, ◌≤◌, ◌<◌, ◌^◌, ℕ, true, List, [], ◌∷◌, ◌++◌, length, take, drop}
use Rattle.std.specs.List.{concat}
use Rattle.log_text.specs.declared.form.LogForm.{LogForm}
use Rattle.log_text.specs.declared.form.LogFormat.TheVariants.{Second}
use Rattle.log_text.specs.Forms.{header}
use Rattle.log_rules.specs.order.Logs.{Whole, read_log}
use Rattle.log_records.specs.Sights.{body, left_by, log_state}
use Rattle.log_records.specs.Texts.{is_whole}
use Rattle.process_state.specs.States.{CoreState, form_of}
use Rattle.tree_process.specs.Nodes.{HoldsLog, LogStands}
use Rattle.file_blocks.specs.Files.{Holds, file_text}
use Rattle.file_blocks.specs.Laws.{IsFileLeft}
use Rattle.log_file.specs.declared.store.FileStore.{FileStore}
use Rattle.log_file.specs.Disks.{OnDisk, unforced}
use Rattle.log_file.specs.Stores.{file_bytes, file_failures, file_forced}

-- What is known of the bytes under a process's log: they are a header and whole records, which can be there,
-- and the header is forced.
pub record IsLogOf (c : CoreState) (text : List ℕ) (forced : ℕ) : Type 0 where
  pub begins : take 5 text ≡ header Second
  pub whole : is_whole (form_of c.place) 0 (body text) ≡ true
  pub header_forced : 5 ≤ forced
  pub within : forced ≤ length text
  pub stands : LogStands c

-- A node that ended left its log so in its file: in its store stood these bytes, N of them forced, which are
-- the log that the process keeps; and of the file of this number these blocks are on the disk, which hold the
-- forced bytes.
pub record LeavesFile (c : CoreState) (text : List ℕ) (forced number : ℕ) (first : List ℕ)
    (others : List (List ℕ)) : Type 0 where
  pub failures : ℕ
  pub log : (log_state (form_of c.place) text forced failures 0 c.log.failed).sight ≡ c.log
  pub is_log : IsLogOf c text forced
  pub safe : concat (first ∷ others) ≡ take forced text
  pub told : number < 2 ^ 64
  pub short : length (file_text number (first ∷ (others ++ drop forced text ∷ []))) < 2 ^ 64

-- The next node found these bytes: such a file held them after a crash, which left of it what is on the disk,
-- and any front of a block that was being written, with what was not forced.
pub record FindsLog (c : CoreState) (bytes : List ℕ) : Type 0 where
  pub text : List ℕ
  pub forced : ℕ
  pub number : ℕ
  pub first : List ℕ
  pub others : List (List ℕ)
  pub leaves : LeavesFile c text forced number first others
  pub file : List ℕ
  pub left : IsFileLeft number first others (drop forced text) file
  pub read_as : ℕ
  pub read_told : read_as < 2 ^ 64
  pub held : Holds file read_as bytes

-- The bytes are what a process left of its log: its forced records, and of the others those that stand whole
-- within N bytes more. After them may stand a torn tail.
pub record KeepsFile (p : LogForm) (c : CoreState) (bytes : List ℕ) (keep : ℕ) : Type 0 where
  pub torn : ℕ
  pub read : read_log p bytes ≡ Whole (left_by c.log keep) torn

-- A store that holds a process's log, and of whose file these blocks are on the disk, leaves such a file.
abbrev pub StoresLeaveFiles : {F : Type 0} → FileStore F → Type 0
StoresLeaveFiles s = (c : CoreState) (first : List ℕ) (others : List (List ℕ))
    → HoldsLog file_bytes file_forced file_failures c s → IsLogOf c (file_bytes s) (file_forced s)
    → OnDisk s first others → s.number < 2 ^ 64
    → length (file_text s.number (first ∷ (others ++ unforced s ∷ []))) < 2 ^ 64
    → LeavesFile c (file_bytes s) (file_forced s) s.number first others
