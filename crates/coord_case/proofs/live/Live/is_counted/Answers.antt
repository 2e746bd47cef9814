use Rattle.coord_case.proofs.Children.{counted-awaits}
use Rattle.std.proofs.Common.{ap, ◌∙◌}
use Rattle.coord_case.specs.Lives.{awaits_vote}
use Rattle.coord_case.proofs.live.Live.is_counted.Goals as goal

pub returns : goal.returns
returns c = rw (← c.self.view_is) (c.is_awaited.ensures ∙ ap (awaits_vote c.args.ticket.now)
    c.as_slice.ensures ∙ counted-awaits c.self.inside.children.items c.args.ticket.now
    c.self.invariant.distinct)
