use Rattle.std.proofs.Common.{rules}
use Rattle.case_table.proofs.Kept.{Finds-found}
use Rattle.case_table.proofs.table.LiveTable.find.Goals as goal

pub returns-clause-finds : goal.returns-clause-finds
returns-clause-finds g c = Finds-found c.args.self.now c.args.case.now c.keys.result.now _ (search rules)
    c.keys.ensures (search rules)
