use Rattle.std.proofs.Common.{codes}
use Rattle.picture_shapes.proofs.Chains.{five}
use Rattle.picture_shapes.specs.Head.{ground_text, title_words}
use Rattle.picture_shapes.specs.Words.{word_text}
use Rattle.picture_shapes.proofs.head.push_ground.Goals as goal

pub returns : goal.returns
unfolding ground_text
returns c =
    five _ _ _ _ _ _ _
    (word_text (codes "<rect class=\"bg\" width=\"") c.args.width)
    (word_text (codes "\" height=\"") c.args.height)
    (codes "\"/><text x=\"20\" y=\"36\" class=\"big b\">")
    (title_words c.args.summary.now)
    (codes "</text>\n")
    c.in_ok-push_word.ensures
    c.in_ok-push_word-2.ensures
    c.in_ok-push.ensures
    c.in_ok-push_title.ensures
    c.push-2.ensures
