use Rattle.std.proofs.Common.{subst}
use Rattle.coord_cases.specs.Cases.{Restores}
use Rattle.coord_cases.proofs.Changing.{restores}
use Rattle.coord_cases.proofs.cases.LiveCases.restore.Goals as goal

pub returns-clause-ok : goal.returns-clause-ok
returns-clause-ok c =
    subst (λ slots. Restores slots c.insert.new.self c.args.case c.args.live) c.self.view_is
    (restores c.self.inside.table c.insert.new.self c.args.case c.args.live c.in_ok-insert.field-0
    c.self.invariant c.in_ok-insert.ensures.ok)
