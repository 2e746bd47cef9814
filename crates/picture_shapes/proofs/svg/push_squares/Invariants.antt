use Rattle.std.proofs.Common.{◌≡◌, ◌++◌, take}
use Rattle.picture_shapes.specs.Svg.{squares_text}
use Rattle.picture_shapes.proofs.svg.push_squares.Given as goal

abbrev pub invariant-loop-square : goal.invariant-loop-square
invariant-loop-square l = l.out.items ≡ l.initial.out.items ++ squares_text (take l.square-index l.squares)
