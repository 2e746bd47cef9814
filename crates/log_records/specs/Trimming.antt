-- A log that is put in place of another, and what a trim leaves.
use Rattle.std.specs.Prelude.{◌≡◌, ◌≤◌, ◌<◌, ⊤, ℕ, true, Option, None, Some, List, [], ◌∷◌, ◌++◌, length, map, take}
use Rattle.log_text.specs.declared.form.LogForm.{LogForm}
use Rattle.protocol.specs.declared.names.Kind.{Kind}
use Rattle.protocol.specs.declared.names.Kind.TheVariants.{Coordinator, Manager}
use Rattle.protocol.specs.LogNames.{unnamed}
use Rattle.protocol.specs.Store.{base_records, data_of}
use Rattle.protocol.specs.declared.records.LogRecord.{LogRecord}
use Rattle.log_text.specs.Forms.{header}
pub use Rattle.log_rules.specs.trim.Trims.{front_of_trim}
use Rattle.log_text.specs.Marks.{mark_of}
use Rattle.log_text.specs.declared.mark.TrimMark.{TrimMark}
use Rattle.log_records.specs.Texts.{is_whole, records_in}
use Rattle.log_records.specs.Sights.{LogSight, LogState, Rewritten, body, records_of}

-- the bytes are the whole frames of these records
pub record Holds (p : LogForm) (bytes : List ℕ) (ls : List LogRecord) : Type 0 where
  pub whole : is_whole p 0 bytes ≡ true
  pub read : records_in p 0 bytes ≡ ls

-- the text is a log of these records
pub record Spells (p : LogForm) (text : List ℕ) (ls : List LogRecord) : Type 0 where
  pub begins : take 5 text ≡ header p.format
  pub long : 5 ≤ length text
  pub holds : Holds p (body text) ls

-- the bytes begin with a record of this frame and this mark, and these bytes are after it, whole records too
pub record BeginsWith (p : LogForm) (bytes frame : List ℕ) (m : TrimMark) (rest : List ℕ) : Type 0 where
  pub first : LogRecord
  pub held : Holds p frame (first ∷ [])
  pub marked : m ≡ mark_of first
  pub read : records_in p 0 bytes ≡ first ∷ records_in p 0 rest
  pub whole : is_whole p 0 rest ≡ true
  pub shorter : length rest < length bytes

-- how many records the frame of the last Opened is: none, if there are no bytes
abbrev pub opened_count : List ℕ → ℕ
opened_count [] = 0
opened_count (b ∷ bs) = 1

-- the records of a log after a trim: what stays of them, and these after it
abbrev pub trim_of : LogState → List LogRecord → List LogRecord
trim_of s rs = front_of_trim (records_of s.sight.kept) ++ rs

-- the records of the data that a trim puts after what stays: a coordinator has none
abbrev pub data_by : Kind → List LogRecord → List LogRecord
data_by Coordinator ls = []
data_by Manager ls = map unnamed (base_records (data_of ls))

-- the records of the data of a log
abbrev pub own_data : LogSight → List LogRecord
own_data s = data_by s.form.kind (records_of s.kept)

-- a trim leaves these records of a log of this sort of process as they are
abbrev pub StayWhole : Kind → List LogRecord → Type 0
StayWhole k ls = front_of_trim ls ++ data_by k ls ≡ ls

-- a trim leaves the log as it is, and it has this many records
pub record StaysTrimmed (s : LogState) (count : ℕ) : Type 0 where
  pub stays : trim_of s (own_data s.sight) ≡ records_of s.sight.kept
  pub counted : count ≡ length (records_of s.sight.kept)

-- if there is a count, a trim leaves the records of the text as they are, and it counts them
abbrev pub IsTrimmed : LogForm → List ℕ → Option ℕ → Type 0
IsTrimmed p text None = ⊤
IsTrimmed p text (Some count) =
    StayWhole p.kind (records_in p 0 (body text)) × (count ≡ length (records_in p 0 (body text)))

-- what stays of the records stands, and these after it, all of them forced, and as many they are
pub record LogTrimmed (old new : LogState) (rs : List LogRecord) (count : ℕ) : Type 0 where
  pub log : Rewritten old new (trim_of old rs)
  pub counted : count ≡ length (trim_of old rs)
