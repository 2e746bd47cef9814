use Rattle.std.proofs.Common.{◌≡◌}
use Rattle.picture_run.proofs.drawing.Drawing.draw_ruler.Given as goal

abbrev pub invariant-loop-seat : goal.invariant-loop-seat
invariant-loop-seat l = l.self.frame ≡ l.initial.self.frame
