use Rattle.std.proofs.Common.{codes}
use Rattle.picture_shapes.proofs.Chains.{six}
use Rattle.picture_shapes.specs.Svg.{corner_text, frame_text}
use Rattle.picture_shapes.specs.Words.{word_text}
use Rattle.picture_shapes.proofs.svg.push_frame.Goals as goal

pub returns : goal.returns
unfolding frame_text
returns c =
    six _ _ _ _ _ _ _ _
    (word_text (codes "<rect class=\"box ink\" x=\"") c.args.plate.now.x)
    (word_text (codes "\" y=\"") c.args.plate.now.y)
    (word_text (codes "\" width=\"") c.args.plate.now.width)
    (codes "\" height=\"30\" rx=\"")
    (corner_text c.args.plate.now.is_round)
    (codes "\"/>")
    c.in_ok-push_word.ensures
    c.in_ok-push_word-2.ensures
    c.in_ok-push_word-3.ensures
    c.in_ok-push.ensures
    c.in_ok-push_corner.ensures
    c.push-2.ensures
