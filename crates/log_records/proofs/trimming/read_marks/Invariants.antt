use Rattle.std.proofs.Common.{◌≤◌, ◌+◌, length}
use Rattle.log_records.specs.Texts.{records_in}
use Rattle.log_records.proofs.Trims.{MarksSoFar}
use Rattle.log_records.proofs.trimming.read_marks.Given as goal

abbrev pub invariant-loop-frame : goal.invariant-loop-frame
invariant-loop-frame l =
    (l.place + length l.rest ≤ length l.fn.bytes)
    × MarksSoFar l.fn.form (records_in l.fn.form 0 l.fn.bytes) l.place l.lives l.rest l.opened

abbrev pub decreases-loop-frame : goal.decreases-loop-frame
decreases-loop-frame l = length l.rest
