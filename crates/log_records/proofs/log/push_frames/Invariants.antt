use Rattle.std.proofs.Common.{◌≡◌, ◌++◌, drop, map}
use Rattle.log_text.specs.Made.{frame_record}
use Rattle.log_text.specs.Payloads.{records_text}
use Rattle.log_records.proofs.log.push_frames.Given as goal

abbrev pub invariant-loop-frame : goal.invariant-loop-frame
invariant-loop-frame l = l.text.items ++ records_text l.form (map frame_record (drop l.frame-index l.frames))
    ≡ l.initial.text.items ++ records_text l.form (map frame_record l.frames)
