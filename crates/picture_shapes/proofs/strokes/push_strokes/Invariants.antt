use Rattle.std.proofs.Common.{◌≡◌, ◌++◌, take}
use Rattle.picture_shapes.specs.Svg.{strokes_text}
use Rattle.picture_shapes.proofs.strokes.push_strokes.Given as goal

abbrev pub invariant-loop-stroke : goal.invariant-loop-stroke
invariant-loop-stroke l = l.out.items ≡ l.initial.out.items ++ strokes_text (take l.stroke-index l.strokes)
