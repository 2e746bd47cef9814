use Rattle.std.proofs.Common.{rules, None, Some}
use Rattle.coord_process.specs.Meets.{FindsAt}
use Rattle.coord_process.proofs.Heard.{hears_none, hears_some}
use Rattle.coord_process.proofs.coordinator.Coordinator.hear_of.Goals as goal

pub returns-in-None : goal.returns-in-None
returns-in-None g c =
    let finds : FindsAt c.args.self.now.slots c.args.txn c.args.ticket None = search rules in
    hears_none c.args.self.now c.args.txn c.args.ticket c.args.asked c.args.otherwise finds c.requires.any

pub returns-in-Some : goal.returns-in-Some
returns-in-Some g c =
    let finds : FindsAt c.args.self.now.slots c.args.txn c.args.ticket
    (Some (c.in-Some.key, c.in-Some.case)) = search rules in
    hears_some c.args.self.now c.args.txn c.args.ticket c.args.asked c.args.otherwise c.in-Some.key
    c.in-Some.case finds c.requires.child c.requires.up
