use Rattle.std.proofs.Common.{rules, ◌≡◌, Some, sym, ap, ◌∙◌}
use Rattle.protocol.specs.Memory.{ticket_of_child}
use Rattle.protocol.specs.Standings.{CoordinatorView}
use Rattle.coord_cases.specs.Cases.{live_at}
use Rattle.coord_cases.proofs.Lent.{view_here}
use Rattle.coord_process.proofs.coordinator.Coordinator.accepted.Goals as goal

pub returns : goal.returns
returns g c =
    let live : live_at c.args.self.now.slots c.args.key ≡ Some c.in-Some.live.now = search rules in
    c.child_ticket.ensures
    ∙ ap (λ (v : CoordinatorView). ticket_of_child v.accepted c.args.child)
    (sym (view_here c.args.self.now.slots c.args.key c.args.case.now c.in-Some.live.now
    c.requires.apart c.requires.at live))
