use Rattle.std.proofs.Common.{sym, subst}
use Rattle.protocol.specs.declared.messages.Message.TheVariants.{Work}
use Rattle.sub_branches.specs.declared.branch.BranchStage.{BranchStage}
use Rattle.sub_branches.specs.Stages.{TakesBy}
use Rattle.sub_process.specs.Subordinates.{Hears, IsAt, SubState, seen}
use Rattle.sub_process.proofs.Staying.{heard, work_unknown, work_untaken}
use Rattle.sub_process.proofs.subordinate.Subordinate.work.Goals as goal

pub returns-in_default-clause-ok : goal.returns-in_default-clause-ok
returns-in_default-clause-ok g c =
    let s : SubState = record {
      me = c.self.inside.me;
      parent = c.self.inside.parent;
      tree = c.self.inside.tree;
      given = c.self.inside.given;
      table = c.self.inside.branches;
      manager = g.M.ResourceManager.sight c.self.inside.manager;
    } in
    subst (λ v. Hears (seen g.M.ResourceManager.sight v) (seen g.M.ResourceManager.sight v)
    (Work c.args.case c.args.number c.args.op.now) c.silence.result) c.self.view_is
    (subst (λ r. Hears s s (Work c.args.case c.args.number c.args.op.now) r) (sym c.silence.ensures)
    (heard s c.args.case (Work c.args.case c.args.number c.args.op.now) _ (work_unknown s c.args.case
    c.in_default.ensures.kept c.args.number c.args.op.now c.in_default.ensures.finds)))

pub work_on-requires-clause-at : goal.work_on-requires-clause-at
work_on-requires-clause-at g c =
    let at = subst (λ v. IsAt v.table c.in-Some.key c.args.case c.in-Some.branch.now)
    c.self.view_is c.in-Some.ensures.finds in
    let taken = subst (λ r. TakesBy c.in-Some.branch.now.stage c.args.number r)
    c.in-Some-takes.is c.takes.ensures in
    subst (λ (st : BranchStage). IsAt c.args.self.now.table c.in-Some.key c.args.case
    (record { xid = c.in-Some.branch.now.xid; stage = st })) taken.0 at

pub returns-in-None-clause-ok : goal.returns-in-None-clause-ok
returns-in-None-clause-ok g c =
    let s : SubState = record {
      me = c.self.inside.me;
      parent = c.self.inside.parent;
      tree = c.self.inside.tree;
      given = c.self.inside.given;
      table = c.self.inside.branches;
      manager = g.M.ResourceManager.sight c.self.inside.manager;
    } in
    subst (λ v. Hears (seen g.M.ResourceManager.sight v) (seen g.M.ResourceManager.sight v)
    (Work c.args.case c.args.number c.args.op.now) c.silence-in-None.result) c.self.view_is
    (subst (λ r. Hears s s (Work c.args.case c.args.number c.args.op.now) r) (sym c.silence-in-None.ensures)
    (heard s c.args.case (Work c.args.case c.args.number c.args.op.now) _
    (work_untaken s c.args.case c.in-Some.ensures.kept c.args.number c.args.op.now c.in-Some.key
    c.in-Some.branch.now.xid c.in-Some.branch.now.stage c.in-Some.ensures.finds c.in-None.ensures)))
