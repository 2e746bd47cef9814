-- The record that a frame is of.
use Rattle.protocol.specs.declared.records.LogRecord.{LogRecord}
use Rattle.log_text.specs.declared.encode.Frame.{Frame}

-- the record that a frame is of
abbrev pub frame_record : Frame → LogRecord
frame_record f = f.made_of.value
