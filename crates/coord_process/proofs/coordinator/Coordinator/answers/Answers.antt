use Rattle.std.proofs.Common.{rules, ◌≡◌, subst, sym}
use Rattle.protocol.specs.declared.events.Input.{Input}
use Rattle.protocol.specs.Standings.{unknown_view}
use Rattle.process_state.specs.Turns.{Takes}
use Rattle.coord_effects.specs.Rows.{DoesRow, seat_meant}
use Rattle.coord_rows.specs.Asks.{asked_row}
use Rattle.coord_process.specs.Meets.{RetiresAs, met}
use Rattle.coord_process.specs.States.{state}
use Rattle.coord_process.specs.Turned.{Turned}
use Rattle.coord_process.proofs.Made.{answered_turn, seat_for}
use Rattle.coord_process.proofs.coordinator.Coordinator.answers.Goals as goal

pub returns-clause-ok : goal.returns-clause-ok
returns-clause-ok g c =
    let here : c.seat.result ≡ seat_for c.args.self.now c.args.case = search rules in
    subst (λ reaction. (i : Input) → RetiresAs i c.args.asked c.args.case
    → Turned (state c.args.self.now) (state c.args.self.now) i
    (Takes c.args.case (met c.args.self.now c.args.case c.args.asked)) reaction) (sym c.reaction.ensures)
    (answered_turn c.args.self.now c.args.case c.args.asked c.in_ok-effect.effect c.requires.any
    c.requires.gone c.requires.apart c.requires.fits
    (subst (λ s. DoesRow s (asked_row (seat_meant s) c.args.asked unknown_view)
    c.in_ok-effect.effect unknown_view)
    here c.in_ok-effect.ensures))
