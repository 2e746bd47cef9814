use Rattle.std.proofs.Common.{codes}
use Rattle.picture_shapes.proofs.Chains.{two}
use Rattle.picture_shapes.specs.Svg.{circle_text, open_text}
use Rattle.picture_shapes.proofs.strokes.push_open.Goals as goal

pub returns : goal.returns
unfolding open_text
returns c =
    two _ _ _ _
    (codes "<circle class=\"bar\"")
    (circle_text c.args.x c.args.y 4)
    c.in_ok-push.ensures
    c.push_circle.ensures
