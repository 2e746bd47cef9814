use Rattle.std.proofs.Common.{◌≡◌}
use Rattle.picture_run.proofs.drawing.Drawing.draw_rules.Given as goal

abbrev pub invariant-loop-rule : goal.invariant-loop-rule
invariant-loop-rule l = l.self.frame ≡ l.initial.self.frame
