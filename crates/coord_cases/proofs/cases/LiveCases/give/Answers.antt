use Rattle.std.proofs.Common.{Some, refl, subst, ap, ◌∙◌, sym}
use Rattle.protocol.specs.Names.{child_case}
use Rattle.coord_cases.specs.Cases.{GivesTicket, IsFreshTicket, ticket_in}
use Rattle.coord_cases.proofs.Changing.{fits_given, fresh_ungiven, gives}
use Rattle.coord_cases.proofs.cases.LiveCases.give.Goals as goal

pub invariant_of-self-2 : goal.invariant_of-self-2
invariant_of-self-2 c =
    fits_given c.self.inside.table c.put.new.table c.args.ticket
    (record { given_for = Some c.args.parent; live = c.open.result }) c.args.parent
    c.self.invariant refl c.open.ensures (ap (λ slots. ticket_in slots c.args.parent) c.self.view_is
    ∙ c.requires.ungiven)
    (fresh_ungiven c.self.inside.table (child_case c.args.parent.txn c.args.ticket) c.args.ticket
    c.self.invariant refl
    (subst (λ slots. IsFreshTicket slots c.args.ticket) (sym c.self.view_is) c.requires.fresh))
    c.in_ok-put.ensures.ok

pub returns-clause-ok : goal.returns-clause-ok
returns-clause-ok c =
    subst (λ slots. GivesTicket slots c.put.new.table c.args.parent c.args.ticket) c.self.view_is
    (gives c.self.inside.table c.put.new.table c.args.ticket
    (record { given_for = Some c.args.parent; live = c.open.result }) c.args.parent
    c.self.invariant refl c.open.ensures (ap (λ slots. ticket_in slots c.args.parent) c.self.view_is
    ∙ c.requires.ungiven)
    (fresh_ungiven c.self.inside.table (child_case c.args.parent.txn c.args.ticket) c.args.ticket
    c.self.invariant refl
    (subst (λ slots. IsFreshTicket slots c.args.ticket) (sym c.self.view_is) c.requires.fresh))
    c.in_ok-put.ensures.ok)
