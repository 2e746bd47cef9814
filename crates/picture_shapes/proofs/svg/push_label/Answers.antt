use Rattle.std.proofs.Common.{codes}
use Rattle.picture_shapes.proofs.Chains.{six}
use Rattle.picture_shapes.specs.Svg.{ground_of, label_begin, label_text, span_text}
use Rattle.picture_shapes.specs.Words.{escaped}
use Rattle.picture_shapes.proofs.svg.push_label.Goals as goal

pub returns : goal.returns
unfolding label_text
returns c =
    six _ _ _ _ _ _ _ _
    (ground_of c.args.label.now)
    (label_begin c.args.label.now)
    (span_text (codes "<tspan class=\"dim\">") c.args.label.now.number.items)
    (escaped c.args.label.now.body.items)
    (span_text (codes "<tspan class=\"lost\">") c.args.label.now.gone.items)
    (codes "</text>")
    c.in_ok-push_ground.ensures
    c.in_ok-push_label_begin.ensures
    c.in_ok-push_span.ensures
    c.in_ok-push_words.ensures
    c.in_ok-push_span-2.ensures
    c.push.ensures
