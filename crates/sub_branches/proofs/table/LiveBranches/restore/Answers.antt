use Rattle.std.proofs.Common.{ap, subst, ◌∙◌}
use Rattle.sub_branches.specs.Tables.{Restores, branch_in, tickets_of}
use Rattle.sub_branches.proofs.Keeping.{table}
use Rattle.sub_branches.proofs.Tickets.{restored}
use Rattle.sub_branches.proofs.table.LiveBranches.restore.Goals as goal

pub invariant_of-self-2 : goal.invariant_of-self-2
invariant_of-self-2 c =
    (restored c.self.inside.branches c.self.invariant c.insert.new.self c.args.case c.args.branch
    c.in_ok-insert.field-0 (ap (λ t. branch_in t c.args.case) c.self.view_is ∙ c.requires.fresh)
    c.requires.promised
    c.in_ok-insert.ensures.ok).0

pub returns-clause-ok : goal.returns-clause-ok
returns-clause-ok c =
    subst (λ t. Restores t (table (tickets_of c.insert.new.self) c.insert.new.self) c.args.case c.args.branch)
    c.self.view_is
    (restored c.self.inside.branches c.self.invariant c.insert.new.self c.args.case c.args.branch
    c.in_ok-insert.field-0 (ap (λ t. branch_in t c.args.case) c.self.view_is ∙ c.requires.fresh)
    c.requires.promised
    c.in_ok-insert.ensures.ok).1
