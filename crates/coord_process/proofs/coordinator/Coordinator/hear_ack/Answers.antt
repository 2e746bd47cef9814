use Rattle.std.proofs.Common.{rules}
use Rattle.process_state.specs.Turns.{ack_turn}
use Rattle.coord_rows.specs.declared.asked.CaseInput.TheVariants.{Ack}
use Rattle.coord_process.specs.declared.turn.Met.TheVariants.{Nothing}
use Rattle.coord_process.specs.States.{state}
use Rattle.coord_process.specs.Meets.{HearsOf}
use Rattle.coord_process.proofs.Heard.{by_ticket, no_ticket, acknowledges}
use Rattle.coord_process.proofs.coordinator.Coordinator.hear_ack.Goals as goal

pub returns-in-None : goal.returns-in-None
returns-in-None g c = no_ticket c.args.self.now c.args.case
    (λ t. ack_turn (state c.args.self.now) c.args.outcome c.args.findings.now t) (search rules)

pub returns-in-Some : goal.returns-in-Some
returns-in-Some g c =
    let hears : HearsOf c.args.self.now c.args.case.txn c.in-Some.ticket
    (Ack c.in-Some.ticket c.args.outcome c.args.findings) Nothing
    c.hear_of.result = search rules in
    by_ticket c.args.self.now c.args.case c.hear_of.result c.in-Some.ticket
    (Ack c.in-Some.ticket c.args.outcome c.args.findings) Nothing
    (λ t. ack_turn (state c.args.self.now) c.args.outcome c.args.findings.now t) (search rules)
    (acknowledges c.args.self.now c.in-Some.ticket c.args.outcome c.args.findings) hears
