use Rattle.std.proofs.Common.{rules, ◌≡◌, ◌∙◌, Some, None, ap, subst, sym}
use Rattle.protocol.specs.CoordinatorRows.{decided_inquiry}
use Rattle.coord_effects.specs.Rows.{DoesRow, seat_meant}
use Rattle.coord_rows.proofs.AnyView.{at_view}
use Rattle.coord_records.proofs.Inquiries.{answers_are}
use Rattle.coord_records.specs.Answers.{answer_of, answers_by}
use Rattle.coord_rows.proofs.rows.on_inquiry.Goals as goal

pub returns-in-Some : goal.returns-in-Some
returns-in-Some c =
    let answered : answer_of c.args.live.now.standing c.args.seat.case.txn.presumption
    ≡ Some c.in-Some.outcome = search rules in
    at_view c.args.seat (decided_inquiry (seat_meant c.args.seat) c.in-Some.outcome c.args.ticket) _
    c.args.live.now c.decided_inquiry.result
    (answers_are (seat_meant c.args.seat) c.args.ticket c.args.live.now c.args.live.now.standing
    ∙ ap (answers_by (seat_meant c.args.seat) c.args.ticket c.args.live.now) answered)
    c.decided_inquiry.ensures

pub returns-in-None : goal.returns-in-None
returns-in-None c =
    let unanswered : answer_of c.args.live.now.standing
    c.args.seat.case.txn.presumption ≡ None = search rules in
    subst (λ row. DoesRow c.args.seat row c.quiet.result c.args.live.now)
    (sym (answers_are (seat_meant c.args.seat) c.args.ticket c.args.live.now c.args.live.now.standing
    ∙ ap (answers_by (seat_meant c.args.seat) c.args.ticket c.args.live.now) unanswered)) (search rules)
