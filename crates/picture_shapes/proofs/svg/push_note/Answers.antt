use Rattle.std.proofs.Common.{◌∙◌, ◌++◌, ap, codes}
use Rattle.picture_shapes.proofs.Chains.{five}
use Rattle.picture_shapes.specs.Svg.{circle_text, note_text, title_text}
use Rattle.picture_shapes.proofs.svg.push_note.Goals as goal

pub returns : goal.returns
unfolding note_text
returns c =
    five _ _ _ _ _ _ _
    (codes "<g>")
    (title_text c.args.note.now.title.items)
    (codes "<circle class=\"l dim\" pointer-events=\"all\"")
    (circle_text c.args.note.now.x c.args.note.now.y 8)
    (codes "</g>")
    c.in_ok-push.ensures
    (c.in_ok-push_title.ensures ∙ ap (λ t. c.push.new.out.items ++ title_text t) c.deref.ensures.value)
    c.in_ok-push-2.ensures
    c.in_ok-push_circle.ensures
    c.push-3.ensures
