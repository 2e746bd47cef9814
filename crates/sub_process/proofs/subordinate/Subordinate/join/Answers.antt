use Rattle.std.proofs.Common.{◌≡◌, Some, sym, subst}
use Rattle.protocol.specs.declared.messages.Message.TheVariants.{Join}
use Rattle.sub_branches.specs.Tables.{ticket_in}
use Rattle.sub_process.specs.Subordinates.{Hears, SubState, seen}
use Rattle.sub_process.proofs.Joins.{repeated}
use Rattle.sub_process.proofs.subordinate.Subordinate.join.Goals as goal

pub returns-in_ok-reply-in-Some-clause-ok : goal.returns-in_ok-reply-in-Some-clause-ok
returns-in_ok-reply-in-Some-clause-ok g c =
    let s : SubState = record {
      me = c.self.inside.me;
      parent = c.self.inside.parent;
      tree = c.self.inside.tree;
      given = c.self.inside.given;
      table = c.self.inside.branches;
      manager = g.M.ResourceManager.sight c.self.inside.manager;
    } in
    let at : Some c.in-Some.ticket ≡ ticket_in s.table c.args.case = c.in-Some.ensures.is in
    subst (λ v. Hears (seen g.M.ResourceManager.sight v) (seen g.M.ResourceManager.sight v) (Join c.args.case)
    c.in_ok-reply-in-Some.field-0) c.self.view_is
    (subst (λ r. Hears s s (Join c.args.case) r) (sym c.in_ok-reply-in-Some.ensures)
    (repeated s c.args.case c.in-Some.ticket at))
