use Rattle.std.proofs.Common.{◌≡◌, [], sym, subst}
use Rattle.protocol.specs.declared.names.Outcome.TheVariants.{Committed}
use Rattle.protocol.specs.declared.messages.Message.TheVariants.{Commit}
use Rattle.protocol.specs.Standings.{unknown_findings}
use Rattle.process_state.specs.Turns.{this_version}
use Rattle.sub_work.specs.Replies.{shown}
use Rattle.sub_branches.specs.declared.branch.BranchStage.{BranchStage}
use Rattle.sub_process.specs.Subordinates.{Hears, IsAt, SubState, acknowledged, seen}
use Rattle.sub_process.proofs.Staying.{heard, commit_active, commit_unknown}
use Rattle.sub_process.proofs.subordinate.Subordinate.commit.Goals as goal

pub returns-in_default-clause-ok : goal.returns-in_default-clause-ok
returns-in_default-clause-ok g c =
    let s : SubState = record {
      me = c.self.inside.me;
      parent = c.self.inside.parent;
      tree = c.self.inside.tree;
      given = c.self.inside.given;
      table = c.self.inside.branches;
      manager = g.M.ResourceManager.sight c.self.inside.manager;
    } in
    let said : c.in_ok-unreported.field-0 ≡ shown []
    (acknowledged s.me s.parent c.args.case Committed (unknown_findings this_version c.args.case)) =
    subst (λ v. c.in_ok-unreported.field-0 ≡ shown []
    (acknowledged v.me v.parent c.args.case Committed (unknown_findings this_version c.args.case)))
    (sym c.self.view_is) c.in_ok-unreported.ensures in
    subst (λ v. Hears (seen g.M.ResourceManager.sight v) (seen g.M.ResourceManager.sight v)
    (Commit c.args.case) c.in_ok-unreported.field-0) c.self.view_is
    (subst (λ r. Hears s s (Commit c.args.case) r) (sym said)
    (heard s c.args.case (Commit c.args.case) _
    (commit_unknown s c.args.case c.in_default.ensures.kept c.in_default.ensures.finds)))

pub returns-in-Active-clause-ok : goal.returns-in-Active-clause-ok
returns-in-Active-clause-ok g c =
    let s : SubState = record {
      me = c.self.inside.me;
      parent = c.self.inside.parent;
      tree = c.self.inside.tree;
      given = c.self.inside.given;
      table = c.self.inside.branches;
      manager = g.M.ResourceManager.sight c.self.inside.manager;
    } in
    let at = subst (λ (st : BranchStage). IsAt s.table c.in-Some.key c.args.case
    (record { xid = c.in-Some.branch.now.xid; stage = st })) c.in-Active.is c.in-Some.ensures.finds in
    subst (λ v. Hears (seen g.M.ResourceManager.sight v) (seen g.M.ResourceManager.sight v)
    (Commit c.args.case) c.silence.result) c.self.view_is
    (subst (λ r. Hears s s (Commit c.args.case) r) (sym c.silence.ensures)
    (heard s c.args.case (Commit c.args.case) _ (commit_active s c.args.case c.in-Some.ensures.kept
    c.in-Some.key c.in-Some.branch.now.xid c.in-Active.given_for c.in-Active.done c.in-Active.spoiled at)))
