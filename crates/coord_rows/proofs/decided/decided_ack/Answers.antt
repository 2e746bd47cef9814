use Rattle.std.proofs.Common.{rules, ◌≡◌, ◌++◌, true, [], IfErr, IfOk, subst, sym}
use Rattle.protocol.specs.Records.{in_list, none_of}
use Rattle.protocol.specs.CoordinatorRows.{decided_ack_by, other_tickets}
use Rattle.process_state.specs.Turns.{this_version}
use Rattle.coord_effects.specs.Rows.{DoesRow, NotWritten, seat_meant}
use Rattle.coord_rows.proofs.Ending.{last_ack}
use Rattle.coord_rows.proofs.decided.decided_ack.Goals as goal

pub returns-clause-ok : goal.returns-clause-ok
returns-clause-ok c =
    let s = seat_meant c.args.seat in
    let v = c.args.live.now in
    let fs = v.found ++ c.args.findings.now in
    let owed : in_list v.owed c.args.ticket ≡ true = search rules in
    let last : none_of (other_tickets c.args.ticket v.owed) ≡ true = search rules in
    let does : IfOk c.ends.result (λ effect. DoesRow c.args.seat
    (decided_ack_by this_version s c.args.outcome [] fs v) effect c.ends.new.live) = search rules in
    subst (λ row. IfOk c.ends.result (λ effect. DoesRow c.args.seat row effect c.ends.new.live))
    (sym (last_ack s c.args.outcome c.args.ticket fs v owed last)) does

pub returns-clause-unwritten : goal.returns-clause-unwritten
returns-clause-unwritten c =
    let s = seat_meant c.args.seat in
    let v = c.args.live.now in
    let fs = v.found ++ c.args.findings.now in
    let owed : in_list v.owed c.args.ticket ≡ true = search rules in
    let last : none_of (other_tickets c.args.ticket v.owed) ≡ true = search rules in
    let kept : IfErr c.ends.result (NotWritten c.args.seat.parent
    (decided_ack_by this_version s c.args.outcome [] fs v).written) = search rules in
    subst (λ row. IfErr c.ends.result (NotWritten c.args.seat.parent row.written))
    (sym (last_ack s c.args.outcome c.args.ticket fs v owed last)) kept
