-- The ticket of a finding, by what the finding tells of it.
use Rattle.std.specs.Prelude.{Option, Some, None}
use Rattle.protocol.specs.declared.messages.Finding.{Finding}
use Rattle.protocol.specs.declared.messages.Finding.TheVariants.{Mixed, Unreported}
use Rattle.protocol.specs.declared.names.Ticket.{Ticket}

-- the ticket, if the finding reports it as mixed
abbrev pub mixed_ticket : Finding → Option Ticket
mixed_ticket (Mixed t) = Some t
mixed_ticket (Unreported t) = None

-- the ticket, if the finding reports it as unreported
abbrev pub unreported_ticket : Finding → Option Ticket
unreported_ticket (Mixed t) = None
unreported_ticket (Unreported t) = Some t
