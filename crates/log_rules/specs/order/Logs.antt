-- What the bytes of a log are: records and a torn tail, or the place where they are damaged.
use Rattle.std.specs.Prelude.{ℕ, zero, suc, ◌+◌, List, [], ◌∷◌, Option, Some, None, length, take, drop, if◌then◌else◌, nat_lt}
use Rattle.protocol.specs.declared.names.Kind.{Kind}
use Rattle.protocol.specs.declared.names.ProcessId.{ProcessId}
use Rattle.protocol.specs.declared.records.LogRecord.{LogRecord}
use Rattle.protocol.specs.Records.{same_bytes}
use Rattle.log_text.specs.declared.form.LogForm.{LogForm}
use Rattle.log_text.specs.Forms.{form_in, header, size_bytes}
use Rattle.log_text.specs.Frames.{Cut, first_frame}
use Rattle.log_text.specs.Reading.{read_record}
use Rattle.log_rules.specs.order.Orders.{SeenLog, after, nothing_seen}

-- what bytes are: records and a torn tail of N bytes, or damaged at the first byte of a frame (0 for
-- the header)
pub data LogReading : Type 0 where
  Whole : List LogRecord → ℕ → LogReading
  Damaged : ℕ → LogReading

-- one record more in front of what was read
abbrev pub with_first : LogRecord → LogReading → LogReading
with_first l (Whole ls torn) = Whole (l ∷ ls) torn
with_first l (Damaged place) = Damaged place

-- What is read goes from frame to frame; within a frame N bytes are still passed over.

-- the record and what is read after it, where it may be there; else its frame is damaged
abbrev pub seen_by : ℕ → LogRecord → Option SeenLog → (SeenLog → LogReading) → LogReading
seen_by place l None more = Damaged place
seen_by place l (Some s) more = with_first l (more s)

-- what is read from a frame on whose payload is a record; else the frame is damaged
abbrev pub record_by : ℕ → SeenLog → Option LogRecord → (SeenLog → LogReading) → LogReading
record_by place s None more = Damaged place
record_by place s (Some l) more = seen_by place l (after s l) more

-- what is read from a frame on, where one stands whole; else the bytes are a torn tail of this size
abbrev pub frame_by : LogForm → ℕ → SeenLog → ℕ → Option Cut → (ℕ → SeenLog → ℕ → LogReading) → LogReading
frame_by p place s size None more = Whole [] size
frame_by p place s size (Some c) more =
    record_by place s (read_record p c.0 c.1)
    (λ t. more (place + suc (size_bytes p.format) + length c.1) t (size_bytes p.format + length c.1))

-- what these bytes of a log are, from this place on and after these records
unfoldable pub read_frames : LogForm → ℕ → SeenLog → ℕ → List ℕ → LogReading
read_frames p place s k [] = Whole [] 0
read_frames p place s (suc k) (b ∷ bs) = read_frames p place s k bs
read_frames p place s zero (b ∷ bs) =
    frame_by p place s (suc (length bs)) (first_frame p.format (b ∷ bs)) (λ at t k. read_frames p at t k bs)

-- the log that these bytes are: the header and frames; fewer than five bytes that begin the header are an
-- empty log
unfoldable pub read_log : LogForm → List ℕ → LogReading
read_log p bytes =
    if nat_lt (length bytes) 5
    then (if same_bytes bytes (take (length bytes) (header p.format)) then Whole [] 0 else Damaged 0)
    else if same_bytes (take 5 bytes) (header p.format) then read_frames p 5 nothing_seen 0 (drop 5 bytes)
    else Damaged 0

-- what bytes are as the log of this process, by the format that they name
abbrev pub read_as : ProcessId → Kind → List ℕ → LogReading
read_as q k bytes = read_log (form_in bytes q k) bytes
