-- The records of a process's log that are not forced.
use Rattle.std.specs.Prelude.{Option, Some, None, List, []}
use Rattle.protocol.specs.declared.records.LogRecord.{LogRecord}
use Rattle.process_state.specs.States.{CoreState}

-- the records of a process's log after its forced front; none, if there is no such process
abbrev pub unforced_by : Option CoreState → List LogRecord
unforced_by None = []
unforced_by (Some s) = s.log.kept.unforced
