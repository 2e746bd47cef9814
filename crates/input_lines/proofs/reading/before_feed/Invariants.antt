-- It stays within the bytes, and has met no line feed.
use Rattle.std.proofs.Common.{length, ◌-◌, ◌≢◌, ◌≤◌, All, take}
use Rattle.input_lines.proofs.reading.before_feed.Given as goal

abbrev pub invariant-loop-at : goal.invariant-loop-at
invariant-loop-at l = (l.at ≤ length l.bytes) × All (λ x. x ≢ 10) (take l.at l.bytes)

abbrev pub decreases-loop-at : goal.decreases-loop-at
decreases-loop-at l = length l.bytes - l.at
