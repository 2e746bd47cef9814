use Rattle.std.proofs.Common.{◌≡◌, ◌++◌, drop, map}
use Rattle.protocol.specs.declared.names.Kind.TheVariants.{Coordinator}
use Rattle.protocol.specs.LogNames.{in_log}
use Rattle.log_text.specs.Made.{frame_record}
use Rattle.log_records.specs.Sights.{AreRecords}
use Rattle.log_writing.specs.Writes.{AreHeld}
use Rattle.coord_cases.proofs.reopening.framed.Given as goal

abbrev pub invariant-loop-record : goal.invariant-loop-record
invariant-loop-record l =
    (map frame_record l.frames.items ++ map (in_log l.fn.parent) (drop l.record-index l.records)
    ≡ map (in_log l.fn.parent) l.records)
    × AreRecords Coordinator (map frame_record l.frames.items)
    × (AreHeld l.fn.parent l.records → AreHeld l.fn.parent (drop l.record-index l.records))
