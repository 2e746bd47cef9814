use Rattle.std.proofs.Common.{◌++◌, codes}
use Rattle.picture_shapes.proofs.Chains.{three}
use Rattle.picture_shapes.specs.Svg.{circle_text, ring_text, tone_word}
use Rattle.picture_shapes.proofs.svg.push_ring.Goals as goal

pub returns : goal.returns
unfolding ring_text
returns c =
    three _ _ _ _ _
    (codes "<circle class=\"bar " ++ tone_word c.args.ring.now.tone)
    (codes "\"")
    (circle_text c.args.ring.now.x c.args.ring.now.y 4)
    c.in_ok-push_tone.ensures
    c.in_ok-push.ensures
    c.push_circle.ensures
