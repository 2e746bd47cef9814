use Rattle.std.proofs.Common.{◌≡◌, ◌≤◌, ◌+◌, ◌-◌, ◌++◌, length}
use Rattle.log_script.specs.Places.{placed_in}
use Rattle.log_lines.specs.Held.{records_text}
use Rattle.log_lines.proofs.held.push_records.Given as goal

abbrev pub invariant-loop-frame_kind : goal.invariant-loop-frame_kind
invariant-loop-frame_kind l =
    (l.out.items ++ records_text (placed_in l.form (5 + (length l.frames - length l.rest)) 0 l.rest)
    ≡ l.initial.out.items ++ records_text (placed_in l.form 5 0 l.frames))
    × (length l.rest ≤ length l.frames)

abbrev pub decreases-loop-frame_kind : goal.decreases-loop-frame_kind
decreases-loop-frame_kind l = length l.rest
