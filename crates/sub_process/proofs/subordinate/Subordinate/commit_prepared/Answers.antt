use Rattle.std.proofs.Common.{◌≡◌, [], ap, sym, subst}
use Rattle.xa_words.specs.call
use Rattle.protocol_words.specs.Variants.{CommittedOutcome}
use Rattle.protocol.specs.declared.messages.Message.TheVariants.{Commit}
use Rattle.protocol_words.specs.record_kind
use Rattle.xa_tables.specs.Tables.{is_in_doubt}
use Rattle.resource_manager.specs.Sights.{ManagerSight}
use Rattle.sub_branches.specs.declared.branch.LiveBranch.{LiveBranch}
use Rattle.sub_branches.specs.Tables.{IsBranchTable}
use Rattle.sub_process.specs.Subordinates.{Hears, IsAt, NotHeard, SubState, outcome_reply, prepared, seen}
use Rattle.sub_process.proofs.Ties.{behind}
use Rattle.sub_process.proofs.Outcomes.{ended, ended_tied, not_ended, commit_row}
use Rattle.sub_process.proofs.Ends.{not_tied}
use Rattle.sub_process.proofs.subordinate.Subordinate.commit_prepared.Goals as goal

pub commit-requires-clause-named : goal.commit-requires-clause-named
commit-requires-clause-named g c =
    let b : LiveBranch = prepared c.args.xid.now in
    let at : IsAt c.self.inside.branches c.args.key c.args.case b =
    subst (λ v. IsAt v.table c.args.key c.args.case b) (sym c.self.view_is) c.requires.at in
    (c.self.invariant.named c.args.case b at.live).real

pub commit-requires-clause-state : goal.commit-requires-clause-state
commit-requires-clause-state g c =
    let s : SubState = record {
      me = c.self.inside.me;
      parent = c.self.inside.parent;
      tree = c.self.inside.tree;
      given = c.self.inside.given;
      table = c.self.inside.branches;
      manager = g.M.ResourceManager.sight c.self.inside.manager;
    } in
    let b : LiveBranch = prepared c.args.xid.now in
    let at : IsAt c.self.inside.branches c.args.key c.args.case b =
    subst (λ v. IsAt v.table c.args.key c.args.case b) (sym c.self.view_is) c.requires.at in
    ap is_in_doubt (c.self.invariant.stands c.args.case b at.live)

pub invariant_of-self : goal.invariant_of-self
invariant_of-self g c =
    let s : SubState = record {
      me = c.self.inside.me;
      parent = c.self.inside.parent;
      tree = c.self.inside.tree;
      given = c.self.inside.given;
      table = c.self.inside.branches;
      manager = g.M.ResourceManager.sight c.self.inside.manager;
    } in
    let b : LiveBranch = prepared c.args.xid.now in
    let at : IsAt c.self.inside.branches c.args.key c.args.case b =
    subst (λ v. IsAt v.table c.args.key c.args.case b) (sym c.self.view_is) c.requires.at in
    let m : ManagerSight = g.M.ResourceManager.sight c.commit.new.manager in
    ended_tied s c.args.key c.args.case b call.Commit c.remove.new.self m c.self.invariant at
    c.remove.ensures c.in-Ok.ensures.ok

pub invariant_of-self-in-Err-1 : goal.invariant_of-self-in-Err-1
invariant_of-self-in-Err-1 g c =
    let s : SubState = record {
      me = c.self.inside.me;
      parent = c.self.inside.parent;
      tree = c.self.inside.tree;
      given = c.self.inside.given;
      table = c.self.inside.branches;
      manager = g.M.ResourceManager.sight c.self.inside.manager;
    } in
    let b : LiveBranch = prepared c.args.xid.now in
    let at : IsAt c.self.inside.branches c.args.key c.args.case b =
    subst (λ v. IsAt v.table c.args.key c.args.case b) (sym c.self.view_is) c.requires.at in
    not_tied s (g.M.ResourceManager.sight c.commit.new.manager) c.args.case b call.Commit c.in-Err.error
    c.self.invariant at.live c.in-Err.ensures.err

pub returns-in-Ok-clause-ok : goal.returns-in-Ok-clause-ok
returns-in-Ok-clause-ok g c =
    let s : SubState = record {
      me = c.self.inside.me;
      parent = c.self.inside.parent;
      tree = c.self.inside.tree;
      given = c.self.inside.given;
      table = c.self.inside.branches;
      manager = g.M.ResourceManager.sight c.self.inside.manager;
    } in
    let b : LiveBranch = prepared c.args.xid.now in
    let at : IsAt c.self.inside.branches c.args.key c.args.case b =
    subst (λ v. IsAt v.table c.args.key c.args.case b) (sym c.self.view_is) c.requires.at in
    let m : ManagerSight = g.M.ResourceManager.sight c.commit.new.manager in
    let ends = commit_row s c.args.key c.args.case c.args.xid.now
    (subst (λ v. IsBranchTable v.table) (sym c.self.view_is) c.requires.kept) at in
    let said : c.in_ok-reaction.reaction
    ≡ outcome_reply record_kind.Committed c.args.case CommittedOutcome [] c.self.inside.me
    c.self.inside.parent =
    subst (λ fs. c.in_ok-reaction.reaction ≡ outcome_reply record_kind.Committed c.args.case
    CommittedOutcome fs
    c.self.inside.me c.self.inside.parent) c.new.ensures c.in_ok-reaction.ensures in
    subst (λ v. Hears (seen g.M.ResourceManager.sight v) (behind s c.remove.new.self m) (Commit c.args.case)
    c.in_ok-reaction.reaction) c.self.view_is
    (subst (λ r. Hears s (behind s c.remove.new.self m) (Commit c.args.case) r) (sym said)
    (ended s c.args.key c.args.case b (Commit c.args.case) call.Commit _ c.self.invariant at ends
    c.remove.new.self m c.remove.ensures c.in-Ok.ensures.ok))

pub returns-in-Err-clause-err : goal.returns-in-Err-clause-err
returns-in-Err-clause-err g c =
    let s : SubState = record {
      me = c.self.inside.me;
      parent = c.self.inside.parent;
      tree = c.self.inside.tree;
      given = c.self.inside.given;
      table = c.self.inside.branches;
      manager = g.M.ResourceManager.sight c.self.inside.manager;
    } in
    let b : LiveBranch = prepared c.args.xid.now in
    let at : IsAt c.self.inside.branches c.args.key c.args.case b =
    subst (λ v. IsAt v.table c.args.key c.args.case b) (sym c.self.view_is) c.requires.at in
    let m : ManagerSight = g.M.ResourceManager.sight c.commit.new.manager in
    let ends = commit_row s c.args.key c.args.case c.args.xid.now
    (subst (λ v. IsBranchTable v.table) (sym c.self.view_is) c.requires.kept) at in
    subst (λ v. NotHeard (seen g.M.ResourceManager.sight v) (behind s s.table m) (Commit c.args.case)
    c.in-Err.error) c.self.view_is
    (not_ended s c.args.key c.args.case b (Commit c.args.case) call.Commit _ c.self.invariant at ends m
    c.in-Err.error c.in-Err.ensures.err)
