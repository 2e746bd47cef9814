use Rattle.std.proofs.Common.{◌≡◌, map, take}
use Rattle.node_engine.specs.Again.{telling}
use Rattle.node_engine.proofs.again.tellings.Given as goal

abbrev pub invariant-loop-ticket : goal.invariant-loop-ticket
invariant-loop-ticket l = l.messages.items ≡ map (telling l.me l.case l.outcome)
    (take l.ticket-index l.tickets)
