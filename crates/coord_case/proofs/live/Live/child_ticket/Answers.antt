use Rattle.coord_case.proofs.Children.{find_accepted}
use Rattle.std.proofs.Common.{ap, sym, ◌∙◌, find, option_map}
use Rattle.protocol.specs.Names.{same_process}
use Rattle.protocol.specs.Memory.{ticket_of_child}
use Rattle.coord_case.proofs.live.Live.child_ticket.Goals as goal

pub returns : goal.returns
unfolding ticket_of_child
returns c =
    rw (← c.self.view_is) (c.ticket_of.ensures ∙ ap (λ cs. option_map (λ d. d.ticket)
    (find (λ d. same_process d.ticket.child c.args.child) cs)) c.as_slice.ensures
    ∙ sym (find_accepted (λ t. same_process t.child c.args.child) c.self.inside.children.items))
