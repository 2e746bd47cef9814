use Rattle.std.proofs.Common.{◌-◌}
use Rattle.log_text.specs.Parts.{ticket_at}
use Rattle.log_text.proofs.Lists.{Goes}
use Rattle.log_text.proofs.parts.tickets_front.Given as goal

abbrev pub invariant-loop : goal.invariant-loop
invariant-loop l = Goes ticket_at l.count l.fn.bytes l.tickets.items (l.count - l.counter) l.rest
