-- What is read of a payload was so written.
use Rattle.std.specs.Prelude.{◌≡◌, ◌<◌, ℕ, List, Some, slice_index}
use Rattle.protocol.specs.declared.records.LogRecord.{LogRecord}
use Rattle.log_text.specs.declared.form.LogForm.{LogForm}
use Rattle.log_text.specs.Payloads.{kind_byte, payload_text}
use Rattle.log_text.specs.Reading.{read_record}
use Rattle.log_rules.specs.sound.Sound.{IsSound}

-- each number of the list is a byte
abbrev pub AreBytes : List ℕ → Type 0
AreBytes xs = (i : ℕ) → slice_index xs i < 256

-- a frame of this kind and this payload is what the record is written as in a log of this form
pub record IsWrittenAs (f : LogForm) (l : LogRecord) (kind : ℕ) (payload : List ℕ) : Type 0 where
  pub same_kind : kind_byte l.entry ≡ kind
  pub same_payload : payload_text f l.parent l.entry ≡ payload

-- the record that a frame reads as is written as this frame
abbrev pub ReadIsWritten : Type 0
ReadIsWritten = (f : LogForm) (kind : ℕ) (payload : List ℕ) (l : LogRecord) → AreBytes payload
    → read_record f kind payload ≡ Some l → IsWrittenAs f l kind payload

-- what is read of a payload can be in a log
abbrev pub ReadIsSound : Type 0
ReadIsSound = (f : LogForm) (kind : ℕ) (payload : List ℕ) (l : LogRecord) → AreBytes payload
    → read_record f kind payload ≡ Some l → IsSound f.kind l
