-- The bytes of a log as a relation: which bytes after a header are which records with a torn tail, and which
-- are damaged at which place.
use Rattle.std.specs.Prelude.{◌≡◌, ◌<◌, ◌+◌, ◌++◌, ◌⊎◌, ℕ, true, is_some, List, [], ◌∷◌, Option, Some, None, length, take}
use Rattle.std.specs.List.{AllByRecursion}
use Rattle.log_text.specs.declared.form.LogForm.{LogForm}
use Rattle.protocol.specs.declared.records.LogRecord.{LogRecord}
use Rattle.log_text.specs.Forms.{header, size_limit}
use Rattle.log_text.specs.Frames.{Cut, first_frame}
use Rattle.log_text.specs.Payloads.{kind_byte, payload_text, records_text}
use Rattle.log_text.specs.Reading.{read_record}
use Rattle.log_rules.specs.order.Logs.{Damaged, Whole, read_frames, read_log}
use Rattle.log_rules.specs.order.Orders.{SeenLog, after, nothing_seen}
use Rattle.log_rules.specs.sound.Sound.{IsSound}
use Rattle.log_rules.specs.sound.Written.{AreBytes}
use Rattle.log_records.specs.Sights.{body}
use Rattle.log_records.specs.Texts.{is_whole, records_in}

-- what has been seen after more, where it may stand so far
abbrev pub and_then : Option SeenLog → (SeenLog → Option SeenLog) → Option SeenLog
and_then None more = None
and_then (Some s) more = more s

-- what a log has said after these records too, where each may follow those before it
unfoldable pub admitted : SeenLog → List LogRecord → Option SeenLog
admitted s [] = Some s
admitted s (l ∷ ls) = and_then (after s l) (λ t. admitted t ls)

-- a record is in a frame of its own, and is what this frame reads as
pub record HasFrame (p : LogForm) (l : LogRecord) : Type 0 where
  pub short : length (payload_text p l.parent l.entry) < size_limit p.format
  pub reads : read_record p (kind_byte l.entry) (payload_text p l.parent l.entry) ≡ Some l

-- bytes begin with the frames of these records, each of which may follow those before it, where a log has
-- said this; after them it has said that, and other bytes stand
pub record BeginsWithFrames (p : LogForm) (s : SeenLog) (bytes : List ℕ) (ls : List LogRecord)
    (said : SeenLog)
    (rest : List ℕ) : Type 0 where
  pub text : bytes ≡ records_text p ls ++ rest
  pub order : admitted s ls ≡ Some said
  pub frames : AllByRecursion (HasFrame p) ls

-- bytes are the frames of these records and after them N bytes that are no whole frame
pub record IsText (p : LogForm) (s : SeenLog) (bytes : List ℕ) (ls : List LogRecord) (torn : ℕ) : Type 0 where
  pub said : SeenLog
  pub tail : List ℕ
  pub begins : BeginsWithFrames p s bytes ls said tail
  pub is_torn : first_frame p.format tail ≡ None
  pub size : length tail ≡ torn

-- a whole frame is wrong: it is no record of this sort of process, or one that may not follow
abbrev pub IsWrong : LogForm → SeenLog → Cut → Type 0
IsWrong p said c = (read_record p c.0 c.1 ≡ None)
    ⊎ ((l : LogRecord) × (read_record p c.0 c.1 ≡ Some l) × (after said l ≡ None))

-- bytes are damaged N after the first: there the first wrong frame begins, and all before it are sound
pub record IsDamagedAt (p : LogForm) (s : SeenLog) (bytes : List ℕ) (place : ℕ) : Type 0 where
  pub sound : List LogRecord
  pub said : SeenLog
  pub rest : List ℕ
  pub begins : BeginsWithFrames p s bytes sound said rest
  pub size : length (records_text p sound) ≡ place
  pub frame : Cut
  pub is_whole : first_frame p.format rest ≡ Some frame
  pub is_wrong : IsWrong p said frame

-- the bytes after a header are read exactly so: what reads as records and a torn tail is a text of these,
-- and every such text reads so; what reads as damaged is damaged first at that place, and all that is damaged
-- there reads so
pub record ReadsAsText (p : LogForm) (bytes : List ℕ) : Type 0 where
  pub whole : (ls : List LogRecord) (torn : ℕ) → read_frames p 5 nothing_seen 0 bytes ≡ Whole ls torn
      → IsText p nothing_seen bytes ls torn
  pub text : (ls : List LogRecord) (torn : ℕ) → IsText p nothing_seen bytes ls torn
      → read_frames p 5 nothing_seen 0 bytes ≡ Whole ls torn
  pub damaged : (place : ℕ) → read_frames p 5 nothing_seen 0 bytes ≡ Damaged (5 + place)
      → IsDamagedAt p nothing_seen bytes place
  pub damage : (place : ℕ) → IsDamagedAt p nothing_seen bytes place
      → read_frames p 5 nothing_seen 0 bytes ≡ Damaged (5 + place)

-- every list of bytes reads exactly as the text that it is, or as damaged where it is damaged first
abbrev pub BytesReadAsText : Type 0
BytesReadAsText = (p : LogForm) (bytes : List ℕ) → AreBytes bytes → ReadsAsText p bytes

-- the records may follow one another in a log, from its first record on
abbrev pub MayFollowInLog : List LogRecord → Type 0
MayFollowInLog ls = is_some (admitted nothing_seen ls) ≡ true

-- records that can be in a log of this sort of process, and that may follow one another, are read as these
-- after the header, and as damaged nowhere; bytes after them that are no whole frame are a torn tail
abbrev pub OrderedIsRead : Type 0
OrderedIsRead = (p : LogForm) (ls : List LogRecord) → AllByRecursion (IsSound p.kind) ls → MayFollowInLog ls
    → (tail : List ℕ) → first_frame p.format tail ≡ None
    → read_log p (header p.format ++ (records_text p ls ++ tail)) ≡ Whole ls (length tail)

-- bytes that begin as a log does, that are whole frames of records to their end, and whose records may follow
-- one another, are read as these records, and as damaged nowhere
abbrev pub OrderedLogIsRead : Type 0
OrderedLogIsRead = (p : LogForm) (bytes : List ℕ) → take 5 bytes ≡ header p.format
    → is_whole p 0 (body bytes) ≡ true
    → MayFollowInLog (records_in p 0 (body bytes)) → read_log p bytes ≡ Whole (records_in p 0 (body bytes)) 0
