use Rattle.std.proofs.Common.{codes}
use Rattle.picture_shapes.proofs.Chains.{four}
use Rattle.picture_shapes.specs.Head.{size_text}
use Rattle.picture_shapes.specs.Words.{pair_text, word_text}
use Rattle.picture_shapes.proofs.head.push_size.Goals as goal

pub returns : goal.returns
unfolding size_text
returns c =
    four _ _ _ _ _ _
    (word_text (codes "<svg xmlns=\"http://www.w3.org/2000/svg\" width=\"") c.args.width)
    (word_text (codes "\" height=\"") c.args.height)
    (pair_text (codes "\" viewBox=\"0 0 ") c.args.width c.args.height)
    (codes "\" class=\"ink\" role=\"graphics-document\" aria-labelledby=\"title desc\">\n")
    c.in_ok-push_word.ensures
    c.in_ok-push_word-2.ensures
    c.in_ok-push_pair.ensures
    c.push.ensures
