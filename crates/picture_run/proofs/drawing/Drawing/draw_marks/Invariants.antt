use Rattle.std.proofs.Common.{◌≡◌, map, take}
use Rattle.picture_layout.specs.declared.drawn.RecordMark.{RecordMark}
use Rattle.picture_layout.specs.Ways.{spot_of}
use Rattle.picture_run.specs.Pictures.{spot_key, square_key}
use Rattle.picture_run.proofs.drawing.Drawing.draw_marks.Given as goal

abbrev pub invariant-loop-mark : goal.invariant-loop-mark
invariant-loop-mark l = record {
  keys : map square_key l.squares.items
      ≡ map (λ (m : RecordMark). spot_key l.initial.self.frame.grid (spot_of m)) (take l.mark-index l.marks);
  frame : l.self.frame ≡ l.initial.self.frame;
}
