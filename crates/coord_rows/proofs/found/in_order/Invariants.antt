use Rattle.std.proofs.Common.{◌≡◌, ◌++◌, map, take}
use Rattle.protocol.specs.declared.messages.Finding.TheVariants.{Mixed, Unreported}
use Rattle.coord_rows.proofs.found.in_order.Given as goal

abbrev pub invariant-loop-ticket : goal.invariant-loop-ticket
invariant-loop-ticket l = l.ordered.items ≡ map (λ t. Mixed t) (take l.ticket-index l.ticket-items)

abbrev pub invariant-loop-ticket-2 : goal.invariant-loop-ticket-2
invariant-loop-ticket-2 l =
    l.ordered.items ≡ map (λ t. Mixed t) l.mixed.items
    ++ map (λ t. Unreported t) (take l.ticket-index l.ticket-items)
