use Rattle.std.proofs.Common.{◌≡◌, ◌++◌, take}
use Rattle.picture_run.specs.Lines.{steps_lines}
use Rattle.picture_run.specs.Pictures.{titles_of}
use Rattle.picture_run.proofs.drawing.Drawing.draw_steps.Given as goal

abbrev pub invariant-loop-place : goal.invariant-loop-place
invariant-loop-place l =
    titles_of l.lines.items ≡ titles_of l.initial.lines.items ++ steps_lines (take l.place l.entries)
