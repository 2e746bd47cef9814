use Rattle.std.proofs.Common.{◌≡◌, length, take}
use Rattle.picture_parts.specs.Parts.{ruled_by}
use Rattle.picture_parts.proofs.part.Turns.of_shown.Given as goal

abbrev pub invariant-loop-place : goal.invariant-loop-place
invariant-loop-place l =
    ((ruled_by l.marks (take l.place l.counts)).from ≡ l.from)
    × ((ruled_by l.marks (take l.place l.counts)).events ≡ length l.turns.turns.items)
