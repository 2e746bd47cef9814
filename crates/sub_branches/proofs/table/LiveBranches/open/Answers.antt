use Rattle.std.proofs.Common.{ap, subst, ◌∙◌}
use Rattle.std.specs.Prelude.{OnOk, OnErr}
use Rattle.protocol.specs.Names.{child_case}
use Rattle.sub_branches.specs.Tables.{OpensBranch, SameTable, branch_in, ticket_in, tickets_of}
use Rattle.sub_branches.proofs.Keeping.{table}
use Rattle.sub_branches.proofs.Tickets.{entered, entered_kept, not_entered}
use Rattle.sub_branches.proofs.table.LiveBranches.open.Goals as goal

pub invariant_of-self : goal.invariant_of-self
invariant_of-self c =
    entered_kept c.self.inside.branches c.self.invariant c.insert.new.self c.args.given_for
    c.args.ticket c.args.xid
    (ap (λ t. branch_in t (child_case c.args.given_for.txn c.args.ticket)) c.self.view_is ∙ c.requires.fresh)
    (ap (λ t. ticket_in t c.args.given_for) c.self.view_is ∙ c.requires.ungiven)
    c.insert.result c.insert.ensures.ok c.insert.ensures.err

pub returns-clause-ok : goal.returns-clause-ok
returns-clause-ok c =
    subst (λ t. OnOk c.insert.result (OpensBranch t (table (tickets_of c.insert.new.self) c.insert.new.self)
    c.args.given_for c.args.ticket c.args.xid)) c.self.view_is
    (entered c.self.inside.branches c.self.invariant c.insert.new.self c.args.given_for
    c.args.ticket c.args.xid
    (ap (λ t. branch_in t (child_case c.args.given_for.txn c.args.ticket)) c.self.view_is ∙ c.requires.fresh)
    (ap (λ t. ticket_in t c.args.given_for) c.self.view_is ∙ c.requires.ungiven)
    c.insert.result c.insert.ensures.ok)

pub returns-clause-err : goal.returns-clause-err
returns-clause-err c =
    subst (λ t. OnErr c.insert.result (SameTable t (table (tickets_of c.insert.new.self) c.insert.new.self)))
    c.self.view_is
    (not_entered c.self.inside.branches c.self.invariant c.insert.new.self c.insert.result
    c.insert.ensures.err)
