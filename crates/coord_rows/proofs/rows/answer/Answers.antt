use Rattle.std.proofs.Common.{rules, ◌≡◌, ap}
use Rattle.protocol.specs.Standings.{unknown_view}
use Rattle.protocol.specs.CoordinatorRows.{unknown_abort, unknown_commit, unknown_prepare}
use Rattle.coord_effects.specs.Rows.{seat_meant}
use Rattle.coord_rows.specs.declared.asked.CaseInput.{CaseInput}
use Rattle.coord_rows.specs.declared.asked.CaseInput.TheVariants.{Aborts, Commits, Prepare}
use Rattle.coord_rows.specs.Asks.{asked_row}
use Rattle.coord_rows.proofs.AnyView.{at_view}
use Rattle.coord_rows.proofs.rows.answer.Goals as goal
use Rattle.process_state.specs.Turns.{this_version}

pub returns-in-Prepare : goal.returns-in-Prepare
returns-in-Prepare c =
    let asks : c.args.asked ≡ Prepare = search rules in
    at_view c.args.seat (unknown_prepare (seat_meant c.args.seat)) _ unknown_view c.unknown_prepare.result
    (ap (λ (a : CaseInput). asked_row (seat_meant c.args.seat) a unknown_view) asks) c.unknown_prepare.ensures

pub returns-in-Commits : goal.returns-in-Commits
returns-in-Commits c =
    let asks : c.args.asked ≡ Commits = search rules in
    at_view c.args.seat (unknown_commit this_version (seat_meant c.args.seat)) _ unknown_view
    c.unknown_commit.result
    (ap (λ (a : CaseInput). asked_row (seat_meant c.args.seat) a unknown_view) asks) c.unknown_commit.ensures

pub returns-in-Aborts : goal.returns-in-Aborts
returns-in-Aborts c =
    let asks : c.args.asked ≡ Aborts = search rules in
    at_view c.args.seat (unknown_abort this_version (seat_meant c.args.seat)) _ unknown_view
    c.unknown_abort.result
    (ap (λ (a : CaseInput). asked_row (seat_meant c.args.seat) a unknown_view) asks) c.unknown_abort.ensures
