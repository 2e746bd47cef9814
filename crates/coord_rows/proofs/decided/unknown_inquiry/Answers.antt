use Rattle.std.proofs.Common.{IfOk, subst}
use Rattle.protocol.specs.Standings.{CoordinatorView}
use Rattle.protocol.specs.CoordinatorRows.{decided_inquiry}
use Rattle.coord_effects.specs.Rows.{DoesRow, seat_meant}
use Rattle.coord_rows.proofs.decided.unknown_inquiry.Goals as goal

pub returns : goal.returns
returns c =
    subst (λ o. IfOk c.tell_one.result (λ effect. (view : CoordinatorView)
    → DoesRow c.args.seat (decided_inquiry
    (seat_meant c.args.seat) o c.args.ticket view) effect view)) c.presumed.ensures c.tell_one.ensures
