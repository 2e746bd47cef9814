use Rattle.std.proofs.Common.{rules}
use Rattle.process_state.specs.Turns.{vote_turn}
use Rattle.coord_rows.specs.declared.asked.CaseInput.TheVariants.{Vote}
use Rattle.coord_process.specs.declared.turn.Met.TheVariants.{Nothing}
use Rattle.coord_process.specs.States.{state}
use Rattle.coord_process.specs.Meets.{HearsOf}
use Rattle.coord_process.proofs.Heard.{by_ticket, no_ticket, votes}
use Rattle.coord_process.proofs.coordinator.Coordinator.hear_vote.Goals as goal

pub returns-in-None : goal.returns-in-None
returns-in-None g c = no_ticket c.args.self.now c.args.case
    (λ t. vote_turn (state c.args.self.now) c.args.vote t) (search rules)

pub returns-in-Some : goal.returns-in-Some
returns-in-Some g c =
    let hears : HearsOf c.args.self.now c.args.case.txn c.in-Some.ticket
    (Vote c.in-Some.ticket c.args.vote) Nothing
    c.hear_of.result = search rules in
    by_ticket c.args.self.now c.args.case c.hear_of.result c.in-Some.ticket
    (Vote c.in-Some.ticket c.args.vote) Nothing
    (λ t. vote_turn (state c.args.self.now) c.args.vote t) (search rules)
    (votes c.args.self.now c.in-Some.ticket c.args.vote) hears
