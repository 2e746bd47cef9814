-- Where there is room for any frame, there is room for this one.
use Rattle.std.proofs.Common.{◌≤◌, ◌<◌, Option, Some, None, length, refl, arith}
use Rattle.protocol.specs.declared.names.Kind.TheVariants.{Coordinator}
use Rattle.protocol.specs.declared.names.ProcessId.{ProcessId}
use Rattle.protocol.specs.declared.records.LogRecord.{LogRecord}
use Rattle.protocol.specs.declared.records.Record.{Record}
use Rattle.protocol.specs.declared.records.Record.TheVariants.{Opened, Collecting, Prepare, Commit, Abort, End, Prepared, Committed, RolledBack, Direct, HeurCommit, HeurRollback, Told, Forgot, Base, Pair, Cleared}
use Rattle.log_text.specs.Forms.{old_form, unowned}
use Rattle.log_text.specs.Payloads.{payload_text}
use Rattle.log_records.specs.Sights.{IsRecord, LogState, record_size}
use Rattle.log_records.proofs.Within.{own_size}
use Rattle.log_writing.specs.Writes.{HasRecordRoom}

-- a payload that fits a frame of the first format is as short in the second
short_so : (q : Option ProcessId) (r : Record) → length (payload_text (old_form unowned) q r) < 65536
    → length (payload_text unowned q r) < 65536
short_so q (Opened n) h = omega arith
short_so q (Collecting c ts) h = h
short_so q (Prepare c ts) h = h
short_so q (Commit c ts) h = h
short_so q (Abort c ts) h = h
short_so q (End c None) h = h
short_so q (End c (Some r)) h = h
short_so q (Cleared c) h = h
short_so q (Prepared b ws) h = h
short_so q (Committed b) h = h
short_so q (RolledBack b) h = h
short_so q (Direct b ws) h = h
short_so q (HeurCommit b) h = h
short_so q (HeurRollback b) h = h
short_so q (Told b o) h = h
short_so q (Forgot b) h = h
short_so q (Base k) h = h
short_so q (Pair k v) h = h

pub room_for : (log : LogState) (l : LogRecord) → HasRecordRoom log → IsRecord Coordinator l
    → record_size l ≤ log.room
room_for log l room is = omega (
  arith,
  own_size unowned l,
  short_so l.parent l.entry (is (old_form unowned) refl).fits.short,
  room,
)
