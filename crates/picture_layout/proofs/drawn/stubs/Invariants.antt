use Rattle.std.proofs.Common.{◌≡◌, map, take}
use Rattle.picture_layout.specs.Fates.{leaving_in, leavings}
use Rattle.picture_layout.proofs.drawn.stubs.Given as goal

abbrev pub invariant-loop-place : goal.invariant-loop-place
invariant-loop-place l = map leaving_in l.stubs.items
    ≡ leavings l.seats l.rows l.entries (take l.place l.fates)
