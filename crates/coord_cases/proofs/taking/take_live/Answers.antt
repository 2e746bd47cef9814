use Rattle.std.proofs.Common.{rules, ◌≡◌, IfErr, Some, subst, sym}
use Rattle.coord_cases.specs.Cases.{live_at}
use Rattle.coord_effects.specs.Rows.{seat_meant}
use Rattle.coord_rows.specs.Asks.{Accepts, RowNotTaken, asked_row}
use Rattle.coord_cases.proofs.Lent.{held_at, refuses_live, takes_live, view_at}
use Rattle.coord_cases.proofs.taking.take_live.Goals as goal

pub take_row-requires : goal.take_row-requires
take_row-requires c =
    let live : live_at c.args.cases.now c.args.key ≡ Some c.unwrap-live.result.now = search rules in
    let at = held_at c.args.cases.now c.args.key c.args.seat.case
    c.unwrap-live.result.now c.requires.at live in
    subst (Accepts c.args.asked) (view_at c.args.cases.now c.args.key c.args.seat c.args.asked
    c.unwrap-live.result.now c.get_mut.ensures.fits c.get_mut.ensures.apart at) c.requires.accepted

pub returns-clause-ok : goal.returns-clause-ok
returns-clause-ok c =
    let live : live_at c.args.cases.now c.args.key ≡ Some c.unwrap-live.result.now = search rules in
    let at = held_at c.args.cases.now c.args.key c.args.seat.case
    c.unwrap-live.result.now c.requires.at live in
    takes_live c.args.cases.now c.args.key c.args.seat c.args.asked
    c.unwrap-live.result.now c.get_mut.ensures.fits c.get_mut.ensures.apart at c.take_row.new.live
    c.take_row.result c.take_row.ensures.ok

pub returns-clause-err : goal.returns-clause-err
returns-clause-err c =
    let live : live_at c.args.cases.now c.args.key ≡ Some c.unwrap-live.result.now = search rules in
    let at = held_at c.args.cases.now c.args.key c.args.seat.case
    c.unwrap-live.result.now c.requires.at live in
    refuses_live c.args.cases.now c.args.key c.args.seat c.args.asked
    c.unwrap-live.result.now c.get_mut.ensures.fits c.get_mut.ensures.apart at c.take_row.new.live
    c.take_row.result c.take_row.ensures.err

pub returns-clause-untaken : goal.returns-clause-untaken
returns-clause-untaken c =
    let live : live_at c.args.cases.now c.args.key ≡ Some c.unwrap-live.result.now = search rules in
    let at = held_at c.args.cases.now c.args.key c.args.seat.case
    c.unwrap-live.result.now c.requires.at live in
    subst (λ v. IfErr c.take_row.result (RowNotTaken c.args.seat
    (asked_row (seat_meant c.args.seat) c.args.asked v)))
    (sym (view_at c.args.cases.now c.args.key c.args.seat c.args.asked
    c.unwrap-live.result.now c.get_mut.ensures.fits c.get_mut.ensures.apart at)) c.take_row.ensures.untaken
