-- The records of a log, each with the place of its first byte.
use Rattle.std.specs.Prelude.{◌≡◌, ℕ, zero, suc, ◌+◌, List, [], ◌∷◌, Option, Some, None, length, drop, map}
use Rattle.protocol.specs.declared.records.LogRecord.{LogRecord}
use Rattle.log_text.specs.declared.form.LogForm.{LogForm}
use Rattle.log_text.specs.Forms.{size_bytes}
use Rattle.log_text.specs.Frames.{Cut, first_frame}
use Rattle.log_text.specs.Reading.{read_record}
use Rattle.log_rules.specs.order.Logs.{Whole, read_log}

-- a record and the place of its first byte
pub record Placed : Type 0 where
  pub place : ℕ
  pub read : LogRecord

-- a record with the place of its first byte
abbrev pub placed : ℕ → LogRecord → Placed
placed place l = record { place = place; read = l }

-- What is read goes from frame to frame. Within a frame N bytes are still passed over, and a frame
-- begins if none are.

-- the record that begins there, if there is one, and those after it
abbrev pub and_placed : ℕ → Option LogRecord → List Placed → List Placed
and_placed place None more = []
and_placed place (Some l) more = placed place l ∷ more

-- the record of the frame that begins there, if there is one, and those after it
abbrev pub placed_by : LogForm → ℕ → Option Cut → (ℕ → ℕ → List Placed) → List Placed
placed_by p place None more = []
placed_by p place (Some c) more =
    and_placed place (read_record p c.0 c.1)
    (more (place + suc (size_bytes p.format) + length c.1) (size_bytes p.format + length c.1))

-- the records of the whole frames at the front of these bytes, the first of which begins at this place
unfoldable pub placed_in : LogForm → ℕ → ℕ → List ℕ → List Placed
placed_in p place k [] = []
placed_in p place (suc k) (b ∷ bs) = placed_in p place k bs
placed_in p place zero (b ∷ bs) =
    placed_by p place (first_frame p.format (b ∷ bs)) (λ at k. placed_in p at k bs)

-- the records of a log, after its header
abbrev pub placed_records : LogForm → List ℕ → List Placed
placed_records p bytes = placed_in p 5 0 (drop 5 bytes)

-- where a log is sound, these are the records that it reads as
abbrev pub PlacesTell : Type 0
PlacesTell = (p : LogForm) (bytes : List ℕ) (ls : List LogRecord) (torn : ℕ)
    → read_log p bytes ≡ Whole ls torn
    → map (λ x. x.read) (placed_records p bytes) ≡ ls
