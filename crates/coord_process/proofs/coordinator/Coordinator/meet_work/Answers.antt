use Rattle.std.proofs.Common.{rules, ◌≡◌, Some, true}
use Rattle.protocol.specs.declared.standings.Standing.TheVariants.{Active}
use Rattle.protocol.specs.Nodes.{is_leaf, role_of}
use Rattle.protocol.specs.Memory.{ticket_of_child}
use Rattle.coord_cases.specs.Cases.{view_in}
use Rattle.coord_cases.specs.Takes.{IsLiveAt}
use Rattle.coord_process.proofs.Heard.{meets_work}
use Rattle.coord_process.proofs.coordinator.Coordinator.meet_work.Goals as goal

pub returns-in-Some : goal.returns-in-Some
returns-in-Some g c =
    let at : IsLiveAt c.args.self.now.slots c.in-Ok.key c.args.case = search rules in
    let active : (view_in c.args.self.now.slots c.args.case).standing ≡ Active = search rules in
    let accepted : ticket_of_child (view_in c.args.self.now.slots c.args.case).accepted c.args.child
    ≡ Some c.in-Some.ticket = search rules in
    let leaf : is_leaf (role_of c.args.self.now.tree c.in-Some.ticket.child) ≡ true = search rules in
    meets_work c.args.self.now c.in-Ok.key c.args.case c.args.child c.in-Some.ticket c.args.op at
    active accepted leaf c.requires
