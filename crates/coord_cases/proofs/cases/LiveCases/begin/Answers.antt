use Rattle.std.proofs.Common.{None, refl, subst}
use Rattle.protocol.specs.Names.{root_case}
use Rattle.coord_cases.specs.Cases.{BeginsCase}
use Rattle.coord_cases.proofs.Changing.{begins, root_ungiven}
use Rattle.coord_cases.proofs.cases.LiveCases.begin.Goals as goal

pub returns-clause-ok : goal.returns-clause-ok
returns-clause-ok c =
    subst (λ slots. BeginsCase slots c.put.new.table (root_case c.args.txn)) c.self.view_is
    (begins c.self.inside.table c.put.new.table (root_case c.args.txn)
    (record { given_for = None; live = c.open.result }) c.self.invariant refl
    c.open.ensures (root_ungiven c.self.inside.table c.args.txn c.self.invariant) c.in_ok-put.ensures.ok)
