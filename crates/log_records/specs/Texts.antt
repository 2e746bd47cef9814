-- The records in the bytes after a log's header.
use Rattle.std.specs.Prelude.{ℕ, zero, suc, ◌+◌, ◌==◌, Bool, false, List, [], ◌∷◌, Option, Some, None, length}
use Rattle.log_text.specs.declared.form.LogForm.{LogForm}
use Rattle.protocol.specs.declared.records.LogRecord.{LogRecord}
use Rattle.log_text.specs.Forms.{size_bytes}
use Rattle.log_text.specs.Frames.{Cut, first_frame}
use Rattle.log_text.specs.Reading.{read_record}

-- What is read goes from frame to frame. Within a frame N bytes are still passed over, and a frame
-- begins if none are.

-- a record, if one was read, and those after it
abbrev pub and_records : Option LogRecord → List LogRecord → List LogRecord
and_records None more = []
and_records (Some l) more = l ∷ more

-- the record of a frame, where one stands whole, and those after it
abbrev pub records_by : LogForm → Option Cut → (ℕ → List LogRecord) → List LogRecord
records_by p None more = []
records_by p (Some c) more = and_records (read_record p c.0 c.1) (more (size_bytes p.format + length c.1))

-- the records of the whole frames at the front, up to the first that is none
unfoldable pub records_in : LogForm → ℕ → List ℕ → List LogRecord
records_in p k [] = []
records_in p (suc k) (b ∷ bs) = records_in p k bs
records_in p zero (b ∷ bs) = records_by p (first_frame p.format (b ∷ bs)) (λ k. records_in p k bs)

-- a record was read, and what is after it is whole
abbrev pub whole_if : Option LogRecord → Bool → Bool
whole_if None more = false
whole_if (Some l) more = more

-- a frame stands whole and is a record, and what is after it is whole
abbrev pub whole_by : LogForm → Option Cut → (ℕ → Bool) → Bool
whole_by p None more = false
whole_by p (Some c) more = whole_if (read_record p c.0 c.1) (more (size_bytes p.format + length c.1))

-- the bytes are whole frames of records, and nothing after them
unfoldable pub is_whole : LogForm → ℕ → List ℕ → Bool
is_whole p k [] = k == 0
is_whole p (suc k) (b ∷ bs) = is_whole p k bs
is_whole p zero (b ∷ bs) = whole_by p (first_frame p.format (b ∷ bs)) (λ k. is_whole p k bs)

-- this size, where a record was read
abbrev pub size_if : Option LogRecord → ℕ → ℕ
size_if None more = 0
size_if (Some l) more = more

-- how many bytes a frame and those after it are, where it stands whole and is a record
abbrev pub size_by : LogForm → Option Cut → (ℕ → ℕ) → ℕ
size_by p None more = 0
size_by p (Some c) more = size_if (read_record p c.0 c.1)
    (suc (size_bytes p.format) + length c.1 + more (size_bytes p.format + length c.1))

-- how many bytes the whole frames of records at the front are
unfoldable pub whole_size : LogForm → ℕ → List ℕ → ℕ
whole_size p k [] = 0
whole_size p (suc k) (b ∷ bs) = whole_size p k bs
whole_size p zero (b ∷ bs) = size_by p (first_frame p.format (b ∷ bs)) (λ k. whole_size p k bs)
