use Rattle.coord_case.proofs.Children.{has_child_any}
use Rattle.std.proofs.Common.{ap, sym, ◌∙◌}
use Rattle.std.specs.List.{list_any}
use Rattle.protocol.specs.Names.{same_process}
use Rattle.coord_case.proofs.live.Live.has_child.Goals as goal

pub returns : goal.returns
returns c =
    rw (← c.self.view_is) (c.has_child.ensures
    ∙ ap (λ cs. list_any (λ d. same_process d.ticket.child c.args.child) cs) c.as_slice.ensures
    ∙ sym (has_child_any c.self.inside.children.items c.args.child))
