use Rattle.std.proofs.Common.{◌≤◌, ◌+◌, length}
use Rattle.log_records.specs.Texts.{records_in}
use Rattle.log_records.proofs.Trims.{KeepsSoFar}
use Rattle.log_records.proofs.trimming.kept_frames.Given as goal

abbrev pub invariant-loop-frame : goal.invariant-loop-frame
invariant-loop-frame l =
    (l.place + length l.rest ≤ length l.fn.bytes) × (l.count ≤ l.place)
    × KeepsSoFar l.fn.form l.fn.lives (records_in l.fn.form 0 l.fn.bytes) l.place l.rest
    l.frames.items l.count

abbrev pub decreases-loop-frame : goal.decreases-loop-frame
decreases-loop-frame l = length l.rest
