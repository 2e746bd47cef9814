use Rattle.std.proofs.Common.{ap, subst, sym}
use Rattle.sub_branches.specs.Tables.{IsBranchTable, tickets_of}
use Rattle.sub_branches.proofs.Keeping.{none_kept, table}
use Rattle.sub_branches.proofs.table.LiveBranches.new.Goals as goal

pub invariant_of-result : goal.invariant_of-result
invariant_of-result c = subst (λ bs. IsBranchTable (table (tickets_of bs) bs)) (sym c.new.ensures) none_kept

pub returns-clause-tickets : goal.returns-clause-tickets
unfolding tickets_of
returns-clause-tickets c = ap tickets_of c.new.ensures
