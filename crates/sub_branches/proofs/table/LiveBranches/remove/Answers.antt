use Rattle.std.proofs.Common.{subst}
use Rattle.sub_branches.specs.Tables.{Retires, nothing, tickets_of}
use Rattle.sub_branches.proofs.Keeping.{table}
use Rattle.sub_branches.proofs.Tickets.{removed}
use Rattle.sub_branches.proofs.table.LiveBranches.remove.Goals as goal

pub invariant_of-self : goal.invariant_of-self
invariant_of-self c =
    (removed c.self.inside.branches c.self.invariant c.remove.new.self c.args.key c.remove.result
    c.remove.ensures).0

pub returns : goal.returns
returns c =
    subst (λ t. Retires t (table (tickets_of c.remove.new.self) c.remove.new.self) c.args.key nothing)
    c.self.view_is
    (removed c.self.inside.branches c.self.invariant c.remove.new.self c.args.key c.remove.result
    c.remove.ensures).1
