use Rattle.std.proofs.Common.{◌≡◌, ◌++◌, take}
use Rattle.picture_shapes.specs.Svg.{shapes_text}
use Rattle.picture_shapes.proofs.svg.push_shapes.Given as goal

abbrev pub invariant-loop-shape : goal.invariant-loop-shape
invariant-loop-shape l = l.out.items ≡ l.initial.out.items ++ shapes_text (take l.shape-index l.shapes)
