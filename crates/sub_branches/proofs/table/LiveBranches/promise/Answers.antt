use Rattle.std.proofs.Common.{sym, subst}
use Rattle.case_table.specs.Lends.{with_value}
use Rattle.case_table.proofs.Writes.{entry_of}
use Rattle.sub_branches.specs.declared.branch.BranchStage.TheVariants.{Prepared}
use Rattle.sub_branches.specs.Tables.{Retires, promised, tickets_of}
use Rattle.sub_branches.proofs.Keeping.{table}
use Rattle.sub_branches.proofs.Tickets.{promising}
use Rattle.sub_branches.proofs.table.LiveBranches.promise.Goals as goal

pub invariant_of-self : goal.invariant_of-self
invariant_of-self c =
    let found = entry_of c.self.inside.branches c.args.key c.in-Some.branch.now
    (sym c.in-Some.ensures.value) in
    (promising c.self.inside.branches c.self.invariant c.args.key found.0 c.in-Some.branch.now found.1).0

pub returns : goal.returns
returns c =
    let found = entry_of c.self.inside.branches c.args.key c.in-Some.branch.now
    (sym c.in-Some.ensures.value) in
    subst (λ t. Retires t (table (tickets_of (with_value c.self.inside.branches c.args.key
    (record { xid = c.in-Some.branch.now.xid; stage = Prepared })))
    (with_value c.self.inside.branches c.args.key
    (record { xid = c.in-Some.branch.now.xid; stage = Prepared }))) c.args.key promised) c.self.view_is
    (promising c.self.inside.branches c.self.invariant c.args.key found.0 c.in-Some.branch.now found.1).1
