use Rattle.std.proofs.Common.{◌≡◌, map, take}
use Rattle.protocol.specs.declared.messages.Message.TheVariants.{Prepare}
use Rattle.protocol.specs.Names.{child_case}
use Rattle.protocol.specs.CoordinatorRows.{post}
use Rattle.coord_case.proofs.live.prepare_each.Given as goal

abbrev pub invariant-loop-child : goal.invariant-loop-child
invariant-loop-child l =
    l.messages.items ≡ map (λ c. post l.me c.ticket.child (Prepare (child_case l.txn c.ticket) c.works))
    (take l.child-index l.children)
