use Rattle.std.proofs.Common.{◌≡◌}
use Rattle.picture_run.proofs.page.draw_rulers.Given as goal

abbrev pub invariant-loop-row : goal.invariant-loop-row
invariant-loop-row l = l.drawing.frame ≡ l.initial.drawing.frame
