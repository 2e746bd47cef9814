use Rattle.std.proofs.Common.{subst}
use Rattle.coord_cases.specs.Cases.{EndsCase}
use Rattle.coord_cases.proofs.Changing.{ends}
use Rattle.coord_cases.proofs.cases.LiveCases.remove.Goals as goal

pub returns : goal.returns
returns c =
    subst (λ slots. EndsCase slots c.remove.new.self c.args.key) c.self.view_is
    (ends c.self.inside.table c.remove.new.self c.args.key _ c.self.invariant c.remove.ensures)
