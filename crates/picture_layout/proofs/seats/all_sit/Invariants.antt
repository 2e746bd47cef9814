use Rattle.std.proofs.Common.{All, take}
use Rattle.picture_layout.specs.Ways.{HasSeat}
use Rattle.picture_layout.proofs.seats.all_sit.Given as goal

abbrev pub invariant-loop-entry : goal.invariant-loop-entry
invariant-loop-entry l = All (HasSeat l.seats) (take l.entry-index l.tree)
