use Rattle.std.proofs.Common.{◌∙◌, ◌-◌, ◌+◌, sym, ap, subst, arith, Some}
use Rattle.log_text.specs.Parts.{ticket_at}
use Rattle.log_text.proofs.Lists.{Goes, begins_with, goes_on, stops, ends}
use Rattle.log_text.proofs.parts.tickets_front.Goals as goal

pub loop-init : goal.loop-init
loop-init c = begins_with ticket_at c.args.count
    (c.args.count - 0) c.args.bytes.now _ c.new-tickets.ensures.items (omega arith)

pub loop-preserved : goal.loop-preserved
loop-preserved c =
    let a = c.in-Some in
    subst (λ xs. Goes ticket_at c.args.count c.args.bytes.now xs
    (c.args.count - (c.loop.counter + 1)) a.behind.now) (sym c.in_ok-push.ensures.items)
    (goes_on ticket_at c.args.count (c.args.count - c.loop.counter)
    (c.args.count - (c.loop.counter + 1)) c.args.bytes.now c.loop.rest.now a.behind.now
    c.loop.tickets.items a.ticket
    (omega arith) c.loop.invariant (sym c.in-Some.ensures))

pub returns-clause-ok : goal.returns-clause-ok
returns-clause-ok c =
    ends ticket_at c.args.count (c.args.count - c.loop.counter) c.args.bytes.now c.loop.rest.now
    c.loop.tickets.items (omega arith) c.loop.invariant
    ∙ ap (λ xs. Some (xs, c.loop.rest.now)) (sym c.from_vec.ensures)

pub returns-in_default-clause-err : goal.returns-in_default-clause-err
returns-in_default-clause-err c =
    λ _. stops ticket_at c.args.count (c.args.count - c.loop.counter)
    (c.args.count - (c.loop.counter + 1)) c.args.bytes.now c.loop.rest.now c.loop.tickets.items
    (omega arith)
    c.loop.invariant (sym c.in_default.ensures)
