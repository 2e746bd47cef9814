use Rattle.std.proofs.Common.{◌≡◌, All, length, take}
use Rattle.picture_layout.specs.Ways.{HasSeat, SitFrom}
use Rattle.picture_layout.proofs.seats.sit_in_order.Given as goal

abbrev pub invariant-loop-entry : goal.invariant-loop-entry
invariant-loop-entry l = record {
  few : length l.seats.items ≡ l.entry-index;
  order : SitFrom 0 l.seats.items;
  all : All (HasSeat l.seats.items) (take l.entry-index l.tree);
}
