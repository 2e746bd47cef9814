use Rattle.coord_case.proofs.Children.{all_voted-cast}
use Rattle.coord_case.proofs.Counts.{none_missing}
use Rattle.std.proofs.Common.{◌==◌, ap, sym, ◌∙◌}
use Rattle.coord_case.proofs.live.Live.all_voted.Goals as goal

pub returns : goal.returns
returns c = rw (← c.self.view_is) (ap (λ n. n == 0) c.self.invariant.missing
    ∙ none_missing c.self.inside.children.items
    ∙ sym (all_voted-cast c.self.inside.children.items c.self.invariant.distinct))
