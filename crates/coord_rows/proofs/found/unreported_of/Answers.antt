use Rattle.std.proofs.Common.{rules, ◌≡◌, IfOk, List, subst}
use Rattle.std.proofs.lemmas.Iterator.{YieldsList-from_slice, items_from_collect}
use Rattle.std.proofs.lemmas.Iterator.Consumers.{YieldsList-from_filter_map}
use Rattle.protocol.specs.declared.names.Ticket.{Ticket}
use Rattle.coord_rows.specs.Findings.{unreported_ticket}
use Rattle.coord_rows.proofs.Findings.{unreported_are}
use Rattle.coord_rows.proofs.found.unreported_of.Goals as goal

pub returns : goal.returns
returns c =
    subst (λ (ts : List Ticket). IfOk c.collect.result (λ tickets. tickets.items ≡ ts))
    (unreported_are c.args.findings.now)
    (items_from_collect _ c.collect.ensures.ran (YieldsList-from_filter_map _ unreported_ticket
    (YieldsList-from_slice c.args.findings.now cc) c.filter_map.ensures.closure (λ x r q k. search rules)))
