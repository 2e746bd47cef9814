-- Opening a log over a store.
use Rattle.std.specs.Prelude.{◌≡◌, ◌<◌, ◌≤◌, ◌⊎◌, ⊤, ℕ, Bool, true, false, Option, Some, None, List, [], ◌++◌, length, take, drop}
use Rattle.log_text.specs.declared.form.LogForm.{LogForm}
use Rattle.protocol.specs.declared.records.LogRecord.{LogRecord}
use Rattle.log_store.specs.Stores.{ReplaceBreaks, SameStore}
use Rattle.log_rules.specs.order.Logs.{Whole, Damaged, read_frames, read_log}
use Rattle.log_rules.specs.order.Orders.{SeenLog, after, nothing_seen}
use Rattle.log_records.specs.Texts.{is_whole, records_in}
use Rattle.log_records.specs.Sights.{LogSight, LogState, bytes_behind, kept_of, records_of}
use Rattle.protocol.specs.Records.{same_bytes}
use Rattle.log_text.specs.Forms.{header}
use Rattle.log_text.specs.declared.form.LogFormat.TheVariants.{First}
use Rattle.log_records.specs.declared.opening.StoreText.{StoreText}
use Rattle.log_records.specs.declared.opening.StoreText.TheVariants.{Empty, Sound}
use Rattle.log_records.specs.declared.opening.LogOpenError.{LogOpenError}
use Rattle.log_records.specs.declared.opening.LogOpenError.TheVariants.{Memory, Device, Damaged as DamagedError, OldFormat}

-- the bytes begin as a log of the first format
abbrev pub is_old : List ℕ → Bool
is_old bytes = same_bytes (take 5 bytes) (header First)

-- what was seen once the record of a frame is taken; none, if there is no record or it may not follow
abbrev pub after_frame : SeenLog → Option LogRecord → Option SeenLog
after_frame s None = None
after_frame s (Some l) = after s l

-- the frames in these bytes are sound, but for a torn tail of N bytes
pub record EndsTorn (p : LogForm) (bytes : List ℕ) (torn : ℕ) : Type 0 where
  pub sound : List ℕ
  pub tail : List ℕ
  pub split : bytes ≡ sound ++ tail
  pub size : length tail ≡ torn
  pub whole : is_whole p 0 sound ≡ true
  pub read : read_frames p 5 nothing_seen 0 bytes ≡ Whole (records_in p 0 sound) torn

-- the frames in these bytes are damaged there
abbrev pub IsFault : LogForm → List ℕ → LogOpenError → Type 0
IsFault p bytes Memory = ⊤
IsFault p bytes Device = ⊥
IsFault p bytes OldFormat = ⊥
IsFault p bytes (DamagedError place) = read_frames p 5 nothing_seen 0 bytes ≡ Damaged place

-- the bytes are an empty log without its header; or a header and sound frames, and a torn tail of N
-- bytes
abbrev pub IsLogFound : LogForm → List ℕ → StoreText → Type 0
IsLogFound p bytes Empty = (length bytes < 5) × (read_log p bytes ≡ Whole [] 0)
IsLogFound p bytes (Sound torn) =
    (take 5 bytes ≡ header p.format) × (5 ≤ length bytes) × EndsTorn p (drop 5 bytes) torn
    × (read_log p bytes ≡ read_frames p 5 nothing_seen 0 (drop 5 bytes))

-- the bytes are no log
abbrev pub IsNoLog : LogForm → List ℕ → LogOpenError → Type 0
IsNoLog p bytes Memory = ⊤
IsNoLog p bytes Device = ⊥
IsNoLog p bytes OldFormat = ⊥
IsNoLog p bytes (DamagedError place) = read_log p bytes ≡ Damaged place

-- a log is written again where it is opened: a torn tail of N bytes is after its frames, or its
-- header is not forced whole
abbrev pub IsWrittenAnew : ℕ → ℕ → Type 0
IsWrittenAnew torn forced = (0 < torn) ⊎ (forced < 5)

-- what is forced of the records of these bytes is forced as it was; or they are written again, all of them
-- forced
abbrev pub StaysForced : LogForm → List ℕ → ℕ → ℕ → LogSight → Type 0
StaysForced p bytes forced torn s =
    ((s.kept ≡ kept_of p bytes forced) × (s.behind ≡ bytes_behind p bytes forced))
    ⊎ ((s.kept.unforced ≡ []) × (s.behind ≡ 0) × IsWrittenAnew torn forced)

-- the log of these bytes: their records, a torn tail gone, and what was forced of them
pub record OpensLog (p : LogForm) (bytes : List ℕ) (forced failures : ℕ) (log : LogState) : Type 0 where
  pub form : log.sight.form ≡ p
  pub torn : ℕ
  pub read : read_log p bytes ≡ Whole (records_of log.sight.kept) torn
  pub front : StaysForced p bytes forced torn log.sight
  pub works : log.sight.failed ≡ false
  pub failures_stay : log.sight.failures ≡ failures

-- a text of the records that these bytes are, whole, with its header forced: the bytes as they were, or a
-- text that is written again, all forced
pub record SettlesText (p : LogForm) (bytes : List ℕ) (forced failures : ℕ) (text : List ℕ)
    (forced' failures' : ℕ) : Type 0 where
  pub begins : take 5 text ≡ header p.format
  pub header_forced : 5 ≤ forced'
  pub torn : ℕ
  pub front : ((text ≡ bytes) × (forced' ≡ forced)) ⊎ ((forced' ≡ length text) × IsWrittenAnew torn forced)
  pub whole : is_whole p 0 (drop 5 text) ≡ true
  pub read : read_log p bytes ≡ Whole (records_in p 0 (drop 5 text)) torn
  pub failures_stay : failures' ≡ failures

-- the device failed as the text of a whole log was put in place: the old bytes stand with their forced front,
-- or that text, all forced
pub record BreaksOpening {S : Type 0} (bytes : S → List ℕ) (forced failures : S → ℕ) (p : LogForm)
    (old new : S) : Type 0 where
  pub text : List ℕ
  pub settles : SettlesText p (bytes old) (forced old) (failures old) text (length text) (failures old)
  pub breaks : ReplaceBreaks bytes forced failures old new text

-- why no log is opened, and what store is handed back
abbrev pub LogNotOpened : {S : Type 0} → (S → List ℕ) → (S → ℕ) → (S → ℕ) → LogForm → S → S → LogOpenError
    → Type 0
LogNotOpened bytes forced failures p old new Memory = SameStore bytes forced failures old new
LogNotOpened bytes forced failures p old new Device = BreaksOpening bytes forced failures p old new
LogNotOpened bytes forced failures p old new (DamagedError place) =
    (new ≡ old) × (is_old (bytes old) ≡ false) × (read_log p (bytes old) ≡ Damaged place)
LogNotOpened bytes forced failures p old new OldFormat = (new ≡ old) × (is_old (bytes old) ≡ true)

-- a text was not put in place
abbrev pub IsRefused : {S : Type 0} → (S → List ℕ) → (S → ℕ) → (S → ℕ) → S → S → List ℕ → LogOpenError
    → Type 0
IsRefused bytes forced failures old new text Memory = SameStore bytes forced failures old new
IsRefused bytes forced failures old new text Device = ReplaceBreaks bytes forced failures old new text
IsRefused bytes forced failures old new text (DamagedError place) = ⊥
IsRefused bytes forced failures old new text OldFormat = ⊥
