use Rattle.coord_case.proofs.Works.{works-found}
use Rattle.std.proofs.Common.{ap, sym, ◌∙◌, find}
use Rattle.protocol.specs.Names.{same_ticket}
use Rattle.coord_case.specs.Lives.{works_found}
use Rattle.coord_case.proofs.live.Live.works_sent.Goals as goal

pub returns : goal.returns
returns c =
    rw (← c.self.view_is) (c.works_sent.ensures
    ∙ ap (λ cs. works_found (find (λ d. same_ticket d.ticket c.args.ticket.now) cs)) c.as_slice.ensures
    ∙ sym (works-found c.self.inside.children.items c.args.ticket.now c.self.invariant.distinct))
