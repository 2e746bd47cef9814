use Rattle.std.proofs.Common.{codes}
use Rattle.picture_shapes.proofs.Chains.{eight}
use Rattle.picture_shapes.specs.Svg.{rule_text}
use Rattle.picture_shapes.specs.Words.{escaped, word_text}
use Rattle.picture_shapes.proofs.svg.push_rule.Goals as goal

pub returns : goal.returns
unfolding rule_text
returns c =
    eight _ _ _ _ _ _ _ _ _ _
    (word_text (codes "<path class=\"l rule\" d=\"M0 ") c.args.rule.now.y)
    (word_text (codes "H") c.args.rule.now.width)
    (word_text (codes "\"/><text class=\"dim b\" x=\"34\" y=\"") c.args.rule.now.words_y)
    (word_text (codes "\" text-anchor=\"end\">") c.args.rule.now.event)
    (word_text (codes "</text><text class=\"dim\" x=\"44\" y=\"") c.args.rule.now.words_y)
    (codes "\">")
    (escaped c.args.rule.now.line.items)
    (codes "</text>")
    c.in_ok-push_word.ensures
    c.in_ok-push_word-2.ensures
    c.in_ok-push_word-3.ensures
    c.in_ok-push_word-4.ensures
    c.in_ok-push_word-5.ensures
    c.in_ok-push.ensures
    c.in_ok-push_words.ensures
    c.push-2.ensures
