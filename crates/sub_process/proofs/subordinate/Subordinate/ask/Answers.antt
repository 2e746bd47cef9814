use Rattle.std.proofs.Common.{◌≡◌, ◌∙◌, Some, true, rules, sym, ap, subst}
use Rattle.sub_branches.specs.Stages.{awaits}
use Rattle.sub_branches.specs.Tables.{branch_in}
use Rattle.sub_process.specs.Subordinates.{SubState, seen}
use Rattle.sub_process.specs.Steps.{Acts}
use Rattle.protocol.specs.declared.events.Act.TheVariants.{Ask}
use Rattle.sub_process.proofs.Steps.{asked}
use Rattle.sub_process.proofs.subordinate.Subordinate.ask.Goals as goal

pub returns-clause-ok : goal.returns-clause-ok
returns-clause-ok g c =
    let s : SubState = record {
      me = c.self.inside.me;
      parent = c.self.inside.parent;
      tree = c.self.inside.tree;
      given = c.self.inside.given;
      table = c.self.inside.branches;
      manager = g.M.ResourceManager.sight c.self.inside.manager;
    } in
    let at : Some c.in_Some-branch.branch ≡ branch_in s.table c.args.case = c.in_Some-branch.ensures
    ∙ sym (ap (λ v. branch_in v.table c.args.case) c.self.view_is) in
    let asks : awaits c.in_Some-branch.branch.stage ≡ true = search rules in
    subst (λ v. Acts (seen g.M.ResourceManager.sight v) (seen g.M.ResourceManager.sight v) (Ask c.args.case)
    c.in_ok-reply.field-0) c.self.view_is
    (subst (λ r. Acts s s (Ask c.args.case) r) (sym c.in_ok-reply.ensures)
    (asked s c.args.case c.in_Some-branch.branch at asks))
