use Rattle.std.proofs.Common.{◌≡◌, ◌++◌, map, take}
use Rattle.protocol.specs.CoordinatorRows.{tells_outcome, to_child}
use Rattle.coord_effects.specs.Rows.{seat_meant}
use Rattle.coord_effects.proofs.seat.tell_each.Given as goal

abbrev pub invariant-loop-ticket : goal.invariant-loop-ticket
invariant-loop-ticket l = l.messages ≡ l.fn.messages
    ++ map (to_child (seat_meant l.seat) (tells_outcome l.outcome)) (take l.ticket-index l.tickets)
