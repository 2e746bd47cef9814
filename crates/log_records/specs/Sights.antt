-- What is seen of a log: its records, a front of which is forced.
use Rattle.std.specs.Prelude.{◌≡◌, ◌≤◌, ◌+◌, ◌-◌, ◌⊎◌, ⊤, ℕ, Bool, true, false, nat_le, if◌then◌else◌, List, [], ◌∷◌, ◌++◌, length, take, drop, Some}
use Rattle.protocol.specs.declared.names.Kind.{Kind}
use Rattle.log_text.specs.declared.form.LogForm.{LogForm}
use Rattle.log_text.specs.declared.form.LogFormat.TheVariants.{Second}
use Rattle.protocol.specs.declared.records.LogRecord.{LogRecord}
use Rattle.log_store.specs.Stores.{MoreFailures}
use Rattle.log_text.specs.Forms.{header}
pub use Rattle.log_text.specs.Payloads.{record_size}
use Rattle.log_text.specs.Payloads.{FitsFrameIn, kind_byte, payload_text, records_text}
use Rattle.log_text.specs.Reading.{read_record}
use Rattle.log_rules.specs.sound.Sound.{IsSound}
use Rattle.log_records.specs.Texts.{records_in, is_whole, whole_size}
use Rattle.log_records.specs.declared.log.LogError.{LogError}
use Rattle.log_records.specs.declared.log.LogError.TheVariants.{Memory, Device}

-- the records that are forced, and those after them
pub record Kept : Type 0 where
  pub forced : List LogRecord
  pub unforced : List LogRecord

-- what is seen of a log: its form, its records, how many of the forced bytes are after the last one that is
-- wholly forced, whether it has failed, and how often its device has
pub record LogSight : Type 0 where
  pub form : LogForm
  pub kept : Kept
  pub behind : ℕ
  pub failed : Bool
  pub failures : ℕ

-- what a contract sees: the sight, and how many more bytes are not refused for memory
pub record LogState : Type 0 where
  pub sight : LogSight
  pub room : ℕ

-- the records of a log, in order
abbrev pub records_of : Kept → List LogRecord
records_of k = k.forced ++ k.unforced

-- the bytes after the header
abbrev pub body : List ℕ → List ℕ
body text = drop 5 text

-- the bytes of the forced front after the header
abbrev pub front : List ℕ → ℕ → List ℕ
front text forced = take (forced - 5) (body text)

-- the records of a text N bytes of which are forced
abbrev pub kept_of : LogForm → List ℕ → ℕ → Kept
kept_of p text forced = record {
  forced = records_in p 0 (front text forced);
  unforced = drop (length (records_in p 0 (front text forced))) (records_in p 0 (body text));
}

-- how many of the forced bytes are after the last record that is wholly forced
abbrev pub bytes_behind : LogForm → List ℕ → ℕ → ℕ
bytes_behind p text forced = length (front text forced) - whole_size p 0 (front text forced)

-- what a contract sees of a log with this text, N bytes of which are forced
abbrev pub log_state : LogForm → List ℕ → ℕ → ℕ → ℕ → Bool → LogState
log_state p text forced failures room failed = record {
  sight = record {
    form = p;
    kept = kept_of p text forced;
    behind = bytes_behind p text forced;
    failed = failed;
    failures = failures;
  };
  room = room - length text;
}

-- the header is forced, of the second format; where the log has not failed, its bytes are whole records
pub record IsLogText (p : LogForm) (text : List ℕ) (forced : ℕ) (failed : Bool) : Type 0 where
  pub second : p.format ≡ Second
  pub begins : take 5 text ≡ header p.format
  pub header_forced : 5 ≤ forced
  pub whole : failed ≡ false → is_whole p 0 (body text) ≡ true

-- N bytes at the front are forced, and after the header among them are whole records
pub record IsKnown (p : LogForm) (text : List ℕ) (forced known : ℕ) : Type 0 where
  pub header : 5 ≤ known
  pub within : known ≤ forced
  pub whole : is_whole p 0 (take (known - 5) (body text)) ≡ true

-- the text begins as a log does, and reads as these records; it is whole, where the log has not failed
pub record ReadsAs (p : LogForm) (text : List ℕ) (ls : List LogRecord) (failed : Bool) : Type 0 where
  pub begins : take 5 text ≡ header p.format
  pub read : records_in p 0 (body text) ≡ ls
  pub whole : failed ≡ false → is_whole p 0 (body text) ≡ true

-- a record can be in a log of this form: it fits a frame, and the frame reads as this record
pub record CanStandInForm (p : LogForm) (l : LogRecord) : Type 0 where
  pub fits : FitsFrameIn p l
  pub again : read_record p (kind_byte l.entry) (payload_text p l.parent l.entry) ≡ Some l

-- a record that can be in any log of this sort of process
abbrev pub IsRecord : Kind → LogRecord → Type 0
IsRecord k l = (p : LogForm) → p.kind ≡ k → CanStandInForm p l

-- one record more, not forced
pub record Appended (old new : LogState) (l : LogRecord) : Type 0 where
  pub form : new.sight.form ≡ old.sight.form
  pub forced : new.sight.kept.forced ≡ old.sight.kept.forced
  pub unforced : new.sight.kept.unforced ≡ old.sight.kept.unforced ++ l ∷ []
  pub behind : new.sight.behind ≡ old.sight.behind
  pub works : new.sight.failed ≡ false
  pub failures : new.sight.failures ≡ old.sight.failures
  pub room : old.room ≤ new.room + record_size l

-- all the records are forced
pub record Forced (old new : LogState) : Type 0 where
  pub form : new.sight.form ≡ old.sight.form
  pub forced : new.sight.kept.forced ≡ records_of old.sight.kept
  pub unforced : new.sight.kept.unforced ≡ []
  pub behind : new.sight.behind ≡ 0
  pub works : new.sight.failed ≡ false
  pub failures : new.sight.failures ≡ old.sight.failures
  pub room : old.room ≤ new.room

-- records that can all are in any log of this sort of process
abbrev pub AreRecords : Kind → List LogRecord → Type 0
AreRecords k [] = ⊤
AreRecords k (l ∷ ls) = IsRecord k l × AreRecords k ls

-- a sound record can be in a log
abbrev pub SoundIsRecord : Type 0
SoundIsRecord = (k : Kind) (l : LogRecord) → IsSound k l → IsRecord k l

-- what is written is read: the text of records reads as these records, and is whole
abbrev pub WrittenIsRead : Type 0
WrittenIsRead = (p : LogForm) (ls : List LogRecord) → AreRecords p.kind ls
    → (records_in p 0 (records_text p ls) ≡ ls) × (is_whole p 0 (records_text p ls) ≡ true)

-- the records at the front that stand whole within N bytes
unfoldable pub whole_within : ℕ → List LogRecord → List LogRecord
whole_within n [] = []
whole_within n (l ∷ ls) = if nat_le (record_size l) n then l ∷ whole_within (n - record_size l) ls else []

-- what a crash leaves that keeps N bytes after the forced front: the forced records, and of the others
-- those that stand whole within what is forced of them and these bytes
abbrev pub left_by : LogSight → ℕ → List LogRecord
left_by s keep = s.kept.forced ++ whole_within (s.behind + keep) s.kept.unforced

-- how many bytes the frames of these records are
unfoldable pub frames_size : List LogRecord → ℕ
frames_size [] = 0
frames_size (l ∷ ls) = record_size l + frames_size ls

-- these records are the first ones of the log, all of them forced, and the header and their frames are N
-- bytes
pub record IsLogFront (s : LogSight) (size : ℕ) (first : List LogRecord) : Type 0 where
  pub rest : List LogRecord
  pub split : first ++ rest ≡ s.kept.forced
  pub sized : size ≡ 5 + frames_size first

-- the log with these records after its own, not forced
abbrev pub longer : LogSight → List LogRecord → LogSight
longer s ls = record s { kept = record { forced = s.kept.forced; unforced = s.kept.unforced ++ ls } }

-- the device failed: of these records a front was appended, and N more bytes are forced, so a crash
-- leaves what it would leave of the log with that front if it kept N bytes more
pub record Breaks (old new : LogState) (ls : List LogRecord) : Type 0 where
  pub form : new.sight.form ≡ old.sight.form
  pub appended : ℕ
  pub stand : records_of new.sight.kept ≡ records_of old.sight.kept ++ take appended ls
  pub no_less : length old.sight.kept.forced ≤ length new.sight.kept.forced
  pub more : ℕ
  pub leaves : (keep : ℕ)
      → left_by new.sight keep ≡ left_by (longer old.sight (take appended ls)) (more + keep)
  pub failed : new.sight.failed ≡ true
  pub cause : MoreFailures old.sight.failures new.sight.failures

-- the first N bytes are whole frames of records, and after them no whole frame of a record begins
pub record Sounds (p : LogForm) (bytes : List ℕ) (size : ℕ) : Type 0 where
  pub sound : List ℕ
  pub tail : List ℕ
  pub split : bytes ≡ sound ++ tail
  pub sound_size : length sound ≡ size
  pub whole : is_whole p 0 sound ≡ true
  pub all : records_in p 0 bytes ≡ records_in p 0 sound

-- the whole frames of records at the front of the text end there
pub record EndsSound (p : LogForm) (text : List ℕ) (end : ℕ) : Type 0 where
  pub header : 5 ≤ end
  pub there : end ≤ length text
  pub sounds : Sounds p (body text) (end - 5)

-- a log of what a crash left that kept N bytes, and of these new records, all of them forced
pub record LogRestarts (old new : LogState) (keep : ℕ) (rs : List LogRecord) : Type 0 where
  pub form : new.sight.form ≡ old.sight.form
  pub forced : new.sight.kept.forced ≡ left_by old.sight keep ++ rs
  pub unforced : new.sight.kept.unforced ≡ []
  pub behind : new.sight.behind ≡ 0
  pub works : new.sight.failed ≡ false
  pub failures : new.sight.failures ≡ old.sight.failures

-- the crash took place and the device failed: what it left stands, and after it a front of the new records;
-- the forced front ends anywhere after the records that were forced
pub record LogRestartBreaks (old new : LogState) (keep : ℕ) (rs : List LogRecord) : Type 0 where
  pub form : new.sight.form ≡ old.sight.form
  pub appended : ℕ
  pub stand : records_of new.sight.kept ≡ left_by old.sight keep ++ take appended rs
  pub no_less : length old.sight.kept.forced ≤ length new.sight.kept.forced
  pub failed : new.sight.failed ≡ true
  pub cause : MoreFailures old.sight.failures new.sight.failures

-- a restart that failed: for memory nothing changed
abbrev pub LogNotRestarted : LogState → LogState → ℕ → List LogRecord → LogError → Type 0
LogNotRestarted old new keep rs Memory = new.sight ≡ old.sight
LogNotRestarted old new keep rs Device = LogRestartBreaks old new keep rs

-- these records stand alone, all of them forced
pub record Rewritten (old new : LogState) (rs : List LogRecord) : Type 0 where
  pub form : new.sight.form ≡ old.sight.form
  pub forced : new.sight.kept.forced ≡ rs
  pub unforced : new.sight.kept.unforced ≡ []
  pub behind : new.sight.behind ≡ 0
  pub works : new.sight.failed ≡ false
  pub failures : new.sight.failures ≡ old.sight.failures

-- the device failed: the log is as it was, or these records stand alone, all of them forced
pub record RewriteBreaks (old new : LogState) (rs : List LogRecord) : Type 0 where
  pub form : new.sight.form ≡ old.sight.form
  pub either : (new.sight.kept ≡ old.sight.kept) ⊎ (new.sight.kept ≡ record { forced = rs; unforced = [] })
  pub failed : new.sight.failed ≡ true
  pub cause : MoreFailures old.sight.failures new.sight.failures

-- the records were not put in place: for memory nothing changed
abbrev pub NotRewritten : LogState → LogState → List LogRecord → LogError → Type 0
NotRewritten old new rs Memory = new.sight ≡ old.sight
NotRewritten old new rs Device = RewriteBreaks old new rs
