use Rattle.std.proofs.Common.{◌≡◌, map, take}
use Rattle.picture_layout.specs.declared.seats.Column.{Column}
use Rattle.picture_run.specs.Pictures.{opening_of, spot_key, square_key}
use Rattle.picture_run.proofs.drawing.Drawing.draw_openings.Given as goal

abbrev pub invariant-loop-seat : goal.invariant-loop-seat
invariant-loop-seat l = record {
  keys : map square_key l.squares.items
      ≡ map (λ (s : Column). spot_key l.initial.self.frame.grid (opening_of s)) (take l.seat-index l.seats);
  frame : l.self.frame ≡ l.initial.self.frame;
}
