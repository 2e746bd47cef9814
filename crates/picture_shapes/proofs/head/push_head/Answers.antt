use Rattle.std.proofs.Common.{◌∙◌, ◌++◌, ap}
use Rattle.picture_shapes.proofs.Chains.{five}
use Rattle.picture_shapes.specs.declared.fixed.TheConstants.{STYLE}
use Rattle.picture_shapes.specs.Head.{ground_text, head_text, legend_text, size_text, summary_text, width_of}
use Rattle.picture_shapes.proofs.head.push_head.Goals as goal

pub returns : goal.returns
unfolding head_text
returns c =
    five _ _ _ _ _ _ _
    (size_text (width_of c.args.frame) c.args.height)
    (summary_text c.args.summary.now)
    STYLE.now
    (ground_text (width_of c.args.frame) c.args.height c.args.summary.now)
    (legend_text c.args.frame c.args.signs.now)
    (c.in_ok-push_size.ensures ∙ ap (λ w. c.args.out.now.items ++ size_text w c.args.height) c.width.ensures)
    c.in_ok-push_summary.ensures
    c.in_ok-push.ensures
    (c.in_ok-push_ground.ensures
    ∙ ap (λ w. c.push.new.out.items ++ ground_text w c.args.height c.args.summary.now) c.width-2.ensures)
    c.push_legend.ensures
