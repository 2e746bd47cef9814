use Rattle.std.proofs.Common.{subst}
use Rattle.coord_cases.specs.Cases.{FindsChild}
use Rattle.coord_cases.proofs.Finding.{FindsChild-found}
use Rattle.coord_cases.proofs.cases.LiveCases.find_child.Goals as goal

pub returns-clause-finds : goal.returns-clause-finds
returns-clause-finds c =
    subst (λ slots. FindsChild slots c.args.txn.now c.args.ticket.now c.find_by.result) c.self.view_is
    (FindsChild-found _ _ c.self.inside.table c.args.txn.now c.args.ticket.now c.find_by.result
    c.find_by.ensures.finds (λ shown b says. says))
