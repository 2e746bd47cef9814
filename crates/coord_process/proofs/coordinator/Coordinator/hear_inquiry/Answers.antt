use Rattle.std.proofs.Common.{rules}
use Rattle.process_state.specs.Turns.{inquiry_turn}
use Rattle.coord_rows.specs.declared.asked.CaseInput.TheVariants.{Inquire}
use Rattle.coord_process.specs.declared.turn.Met.TheVariants.{Presumes}
use Rattle.coord_process.specs.States.{state}
use Rattle.coord_process.specs.Meets.{HearsOf}
use Rattle.coord_process.proofs.Heard.{by_ticket, no_ticket, inquires}
use Rattle.coord_process.proofs.coordinator.Coordinator.hear_inquiry.Goals as goal

pub returns-in-None : goal.returns-in-None
returns-in-None g c = no_ticket c.args.self.now c.args.case
    (λ t. inquiry_turn (state c.args.self.now) c.args.case.txn t) (search rules)

pub returns-in-Some : goal.returns-in-Some
returns-in-Some g c =
    let hears : HearsOf c.args.self.now c.args.case.txn c.in-Some.ticket (Inquire c.in-Some.ticket)
    (Presumes c.args.case.txn c.in-Some.ticket)
    c.hear_of.result = search rules in
    by_ticket c.args.self.now c.args.case c.hear_of.result c.in-Some.ticket (Inquire c.in-Some.ticket)
    (Presumes c.args.case.txn c.in-Some.ticket)
    (λ t. inquiry_turn (state c.args.self.now) c.args.case.txn t) (search rules)
    (inquires c.args.self.now c.args.case.txn c.in-Some.ticket) hears
