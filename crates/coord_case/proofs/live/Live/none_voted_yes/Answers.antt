use Rattle.coord_case.proofs.Children.{yes_of-cast}
use Rattle.coord_case.proofs.Counts.{none_yes}
use Rattle.std.proofs.Common.{◌==◌, ap, sym, ◌∙◌}
use Rattle.protocol.specs.Records.{none_of}
use Rattle.coord_case.proofs.live.Live.none_voted_yes.Goals as goal

pub returns : goal.returns
returns c = rw (← c.self.view_is) (ap (λ n. n == 0) c.self.invariant.yes
    ∙ none_yes c.self.inside.children.items
    ∙ ap none_of (sym (yes_of-cast c.self.inside.children.items c.self.invariant.distinct)))
