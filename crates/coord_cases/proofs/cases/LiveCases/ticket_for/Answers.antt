use Rattle.std.proofs.Common.{sym, ap, ◌∙◌}
use Rattle.coord_cases.specs.Cases.{ticket_in}
use Rattle.coord_cases.proofs.Finding.{ticket-none, ticket-some}
use Rattle.coord_cases.proofs.cases.LiveCases.ticket_for.Goals as goal

pub returns-in-None : goal.returns-in-None
returns-in-None c =
    sym (sym (ap (λ slots. ticket_in slots c.args.case.now) c.self.view_is)
    ∙ ticket-none _ _ c.self.inside.table c.args.case.now c.self.invariant c.in-None.ensures.apart
    c.in-None.ensures.finds (λ shown b says. says))

pub returns-in-Some : goal.returns-in-Some
returns-in-Some c =
    c.ticket_at.ensures
    ∙ ticket-some _ _ c.self.inside.table c.args.case.now c.in-Some.key c.self.invariant
    c.in-Some.ensures.apart c.in-Some.ensures.finds (λ shown b says. says)
    ∙ ap (λ slots. ticket_in slots c.args.case.now) c.self.view_is
