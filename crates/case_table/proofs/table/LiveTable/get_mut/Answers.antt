use Rattle.std.proofs.Common.{rules}
use Rattle.case_table.proofs.Kept.{IsKept-lent}
use Rattle.case_table.proofs.table.LiveTable.get_mut.Goals as goal

pub invariant_of-self-lent : goal.invariant_of-self-lent
invariant_of-self-lent g c = λ w.
    IsKept-lent c.self.inside.slots.slots c.self.inside.keys.entries c.args.key c.in-Some.entry.now w
    c.self.invariant (search rules)
