use Rattle.std.proofs.Common.{codes}
use Rattle.picture_shapes.proofs.Chains.{five}
use Rattle.picture_shapes.specs.Svg.{plate_words}
use Rattle.picture_shapes.specs.Words.{escaped, word_text}
use Rattle.picture_shapes.proofs.svg.push_plate_words.Goals as goal

pub returns : goal.returns
unfolding plate_words
returns c =
    five _ _ _ _ _ _ _
    (word_text (codes "<text class=\"b\" x=\"") c.args.plate.now.middle)
    (word_text (codes "\" y=\"") c.args.plate.now.words_y)
    (codes "\" text-anchor=\"middle\">")
    (escaped c.args.plate.now.body.items)
    (codes "</text>")
    c.in_ok-push_word.ensures
    c.in_ok-push_word-2.ensures
    c.in_ok-push.ensures
    c.in_ok-push_words.ensures
    c.push-2.ensures
