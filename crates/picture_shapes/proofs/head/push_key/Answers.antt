use Rattle.std.proofs.Common.{◌∙◌, ◌++◌, ap₂, codes}
use Rattle.picture_shapes.proofs.Chains.{six}
use Rattle.picture_shapes.specs.Head.{key_text, key_x, key_y}
use Rattle.picture_shapes.specs.Words.{pair_text}
use Rattle.picture_shapes.proofs.head.push_key.Goals as goal

pub returns : goal.returns
unfolding key_text
returns c =
    six _ _ _ _ _ _ _ _
    (pair_text (codes "<g transform=\"translate(") (key_x c.args.frame c.args.entry)
    (key_y c.args.frame c.args.entry))
    (codes ")\">")
    c.args.drawn.now
    (codes "<text x=\"50\" y=\"4\" class=\"dim\">")
    c.args.meaning.now
    (codes "</text></g>\n")
    (c.in_ok-push_pair.ensures
    ∙ ap₂ (λ x y. c.args.out.now.items ++ pair_text (codes "<g transform=\"translate(") x y)
    c.key_at-x.ensures.left
    c.key_at-x.ensures.line)
    c.in_ok-push.ensures
    c.in_ok-push-2.ensures
    c.in_ok-push-3.ensures
    c.in_ok-push-4.ensures
    c.push-5.ensures
