use Rattle.std.proofs.Common.{◌≡◌, ◌++◌, drop}
use Rattle.log_lines.specs.Words.{ticket_words}
use Rattle.log_lines.proofs.words.push_tickets.Given as goal

abbrev pub invariant-loop-ticket : goal.invariant-loop-ticket
invariant-loop-ticket l = l.out.items ++ ticket_words (drop l.ticket-index l.tickets) ≡ l.initial.out.items
    ++ ticket_words l.tickets
