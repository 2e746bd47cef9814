use Rattle.std.proofs.Common.{◌∙◌, sym}
use Rattle.audit_engine.proofs.ChainLaws.{on_ok, step_ends, step_goes_on}
use Rattle.audit_engine.proofs.chains.+push_steps.Goals as goal

pub returns-in-None : goal.returns-in-None
returns-in-None t c =
    step_ends c.args.tree.now c.requires c.args.namings.now.entries c.args.case c.in-Some.ticket
    c.in-Some-parent.process c.process.result c.args.most c.if-most-eq0.false
    c.in-Some.is c.process.ensures
    (sym c.parent.ensures ∙ c.in-Some-parent.is) c.find-found.result
    c.find-found.ensures c.args.steps.now.items
    c.push.new.self.items c.in_ok-push.ensures.items (sym c.asks_next.ensures ∙ c.in-None.is)

pub returns-in-Some-asks_next : goal.returns-in-Some-asks_next
returns-in-Some-asks_next t c =
    on_ok c.push_steps.result
    (step_goes_on c.args.tree.now c.requires c.args.namings.now.entries c.args.case c.in-Some.ticket
    c.in-Some-parent.process c.process.result c.args.most c.if-most-eq0.false
    c.in-Some.is c.process.ensures
    (sym c.parent.ensures ∙ c.in-Some-parent.is) c.find-found.result
    c.find-found.ensures c.args.steps.now.items
    c.push.new.self.items c.push_steps.new.steps.items c.in-Some-asks_next.next c.in_ok-push.ensures.items
    (sym c.asks_next.ensures ∙ c.in-Some-asks_next.is))
    c.push_steps.ensures
