use Rattle.std.proofs.Common.{sym, subst}
use Rattle.protocol.specs.declared.messages.Message.TheVariants.{Prepare}
use Rattle.sub_branches.specs.declared.branch.BranchStage.{BranchStage}
use Rattle.sub_process.specs.Subordinates.{Hears, IsAt, SubState, seen}
use Rattle.sub_process.proofs.Staying.{heard, prepare_again, prepare_decided, prepare_unknown}
use Rattle.sub_process.proofs.subordinate.Subordinate.prepare.Goals as goal

pub returns-in_default-clause-ok : goal.returns-in_default-clause-ok
returns-in_default-clause-ok g c =
    let s : SubState = record {
      me = c.self.inside.me;
      parent = c.self.inside.parent;
      tree = c.self.inside.tree;
      given = c.self.inside.given;
      table = c.self.inside.branches;
      manager = g.M.ResourceManager.sight c.self.inside.manager;
    } in
    subst (λ v. Hears (seen g.M.ResourceManager.sight v) (seen g.M.ResourceManager.sight v)
    (Prepare c.args.case c.args.works) c.in_ok-reply.field-0) c.self.view_is
    (subst (λ r. Hears s s (Prepare c.args.case c.args.works) r) (sym c.in_ok-reply.ensures)
    (heard s c.args.case (Prepare c.args.case c.args.works) _
    (prepare_unknown s c.args.case c.in_default.ensures.kept c.args.works c.in_default.ensures.finds)))

pub returns-in_ok-reply-in-Prepared-clause-ok : goal.returns-in_ok-reply-in-Prepared-clause-ok
returns-in_ok-reply-in-Prepared-clause-ok g c =
    let s : SubState = record {
      me = c.self.inside.me;
      parent = c.self.inside.parent;
      tree = c.self.inside.tree;
      given = c.self.inside.given;
      table = c.self.inside.branches;
      manager = g.M.ResourceManager.sight c.self.inside.manager;
    } in
    let at = subst (λ (st : BranchStage). IsAt s.table c.in-Some.key c.args.case
    (record { xid = c.in-Some.branch.now.xid; stage = st })) c.in-Prepared.is c.in-Some.ensures.finds in
    subst (λ v. Hears (seen g.M.ResourceManager.sight v) (seen g.M.ResourceManager.sight v)
    (Prepare c.args.case c.args.works) c.in_ok-reply-in-Prepared.field-0) c.self.view_is
    (subst (λ r. Hears s s (Prepare c.args.case c.args.works) r) (sym c.in_ok-reply-in-Prepared.ensures)
    (heard s c.args.case (Prepare c.args.case c.args.works) _ (prepare_again s c.args.case
    c.in-Some.ensures.kept c.args.works c.in-Some.key c.in-Some.branch.now.xid at)))

pub returns-in_ok-reply-in-Heuristic-clause-ok : goal.returns-in_ok-reply-in-Heuristic-clause-ok
returns-in_ok-reply-in-Heuristic-clause-ok g c =
    let s : SubState = record {
      me = c.self.inside.me;
      parent = c.self.inside.parent;
      tree = c.self.inside.tree;
      given = c.self.inside.given;
      table = c.self.inside.branches;
      manager = g.M.ResourceManager.sight c.self.inside.manager;
    } in
    let at = subst (λ (st : BranchStage). IsAt s.table c.in-Some.key c.args.case
    (record { xid = c.in-Some.branch.now.xid; stage = st })) c.in-Heuristic.is c.in-Some.ensures.finds in
    subst (λ v. Hears (seen g.M.ResourceManager.sight v) (seen g.M.ResourceManager.sight v)
    (Prepare c.args.case c.args.works) c.in_ok-reply-in-Heuristic.field-0) c.self.view_is
    (subst (λ r. Hears s s (Prepare c.args.case c.args.works) r) (sym c.in_ok-reply-in-Heuristic.ensures)
    (heard s c.args.case (Prepare c.args.case c.args.works) _ (prepare_decided s c.args.case
    c.in-Some.ensures.kept c.args.works c.in-Some.key c.in-Some.branch.now.xid c.in-Heuristic.told at)))
