use Rattle.std.proofs.Common.{◌++◌, codes}
use Rattle.picture_shapes.proofs.Chains.{three}
use Rattle.picture_shapes.specs.Svg.{circle_text, dot_text, tone_word}
use Rattle.picture_shapes.proofs.svg.push_dot.Goals as goal

pub returns : goal.returns
unfolding dot_text
returns c =
    three _ _ _ _ _
    (codes "<circle class=\"f " ++ tone_word c.args.dot.now.tone)
    (codes "\"")
    (circle_text c.args.dot.now.x c.args.dot.now.y c.args.dot.now.radius)
    c.in_ok-push_tone.ensures
    c.in_ok-push.ensures
    c.push_circle.ensures
