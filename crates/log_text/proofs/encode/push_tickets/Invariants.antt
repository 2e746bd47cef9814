use Rattle.std.proofs.Common.{◌≡◌, ◌++◌, drop}
use Rattle.std.specs.List.{flat_map}
use Rattle.log_text.specs.Payloads.{ticket_text}
use Rattle.log_text.proofs.encode.push_tickets.Given as goal

abbrev pub invariant-loop-ticket : goal.invariant-loop-ticket
invariant-loop-ticket l = l.text.items ++ flat_map ticket_text (drop l.ticket-index l.ticket-items)
    ≡ l.initial.text.items ++ flat_map ticket_text l.ticket-items
