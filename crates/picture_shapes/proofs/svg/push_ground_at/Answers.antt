use Rattle.std.proofs.Common.{codes}
use Rattle.picture_shapes.proofs.Chains.{four}
use Rattle.picture_shapes.specs.Svg.{ground_text, place_text, size_text}
use Rattle.picture_shapes.proofs.svg.push_ground_at.Goals as goal

pub returns : goal.returns
unfolding ground_text
returns c =
    four _ _ _ _ _ _
    (codes "<rect class=\"bg\"")
    (place_text c.args.x c.args.y)
    (size_text c.args.size 13)
    (codes "/>")
    c.in_ok-push.ensures
    c.in_ok-push_place.ensures
    c.in_ok-push_size.ensures
    c.push-2.ensures
