use Rattle.std.proofs.Common.{sym, ap, ◌∙◌}
use Rattle.sub_branches.specs.Tables.{ticket_in}
use Rattle.sub_branches.proofs.Tickets.{ticket-none, ticket-some}
use Rattle.sub_branches.proofs.table.LiveBranches.ticket_for.Goals as goal

pub returns-in-None-clause-is : goal.returns-in-None-clause-is
returns-in-None-clause-is c =
    sym (sym (ap (λ t. ticket_in t c.args.case.now) c.self.view_is)
    ∙ ticket-none c.self.inside.branches c.self.invariant _ _ c.args.case.now c.in-None.ensures.finds
    (λ shown b says. says))

pub returns-in-Some-clause-is : goal.returns-in-Some-clause-is
returns-in-Some-clause-is c =
    c.ticket_at.ensures
    ∙ ticket-some c.self.inside.branches c.self.invariant _ _ c.args.case.now c.in-Some.key
    c.in-Some.ensures.finds (λ shown b says. says)
    ∙ ap (λ t. ticket_in t c.args.case.now) c.self.view_is
