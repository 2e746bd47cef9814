use Rattle.std.proofs.Common.{sym, subst}
use Rattle.xa_words.specs.call
use Rattle.protocol.specs.declared.events.Act.TheVariants.{Forget}
use Rattle.resource_manager.specs.Sights.{ManagerSight}
use Rattle.sub_branches.specs.declared.branch.LiveBranch.{LiveBranch}
use Rattle.sub_branches.specs.Tables.{IsBranchTable}
use Rattle.sub_process.specs.Subordinates.{IsAt, SubState, decided, seen}
use Rattle.sub_process.specs.Steps.{Acts, NotActed}
use Rattle.sub_process.proofs.Ends.{not_tied}
use Rattle.sub_process.proofs.Ties.{behind}
use Rattle.sub_process.proofs.Outcomes.{ended_tied}
use Rattle.sub_process.proofs.Decisions.{forgets, not_forgotten}
use Rattle.sub_process.proofs.subordinate.Subordinate.forget_decided.Goals as goal

pub forget-requires-clause-named : goal.forget-requires-clause-named
forget-requires-clause-named g c =
    let b : LiveBranch = decided c.args.xid.now c.args.told in
    let at : IsAt c.self.inside.branches c.args.key c.args.case b =
    subst (λ v. IsAt v.table c.args.key c.args.case b) (sym c.self.view_is) c.requires.at in
    (c.self.invariant.named c.args.case b at.live).real

pub forget-requires-clause-state : goal.forget-requires-clause-state
forget-requires-clause-state g c =
    let b : LiveBranch = decided c.args.xid.now c.args.told in
    let at : IsAt c.self.inside.branches c.args.key c.args.case b =
    subst (λ v. IsAt v.table c.args.key c.args.case b) (sym c.self.view_is) c.requires.at in
    c.self.invariant.stands c.args.case b at.live

pub invariant_of-self : goal.invariant_of-self
invariant_of-self g c =
    let s : SubState = record {
      me = c.self.inside.me;
      parent = c.self.inside.parent;
      tree = c.self.inside.tree;
      given = c.self.inside.given;
      table = c.self.inside.branches;
      manager = g.M.ResourceManager.sight c.self.inside.manager;
    } in
    let b : LiveBranch = decided c.args.xid.now c.args.told in
    let at : IsAt c.self.inside.branches c.args.key c.args.case b =
    subst (λ v. IsAt v.table c.args.key c.args.case b) (sym c.self.view_is) c.requires.at in
    let m : ManagerSight = g.M.ResourceManager.sight c.forget.new.manager in
    ended_tied s c.args.key c.args.case b call.Forget c.remove.new.self m c.self.invariant at
    c.remove.ensures c.in-Ok.ensures.ok

pub invariant_of-self-in-Err-1 : goal.invariant_of-self-in-Err-1
invariant_of-self-in-Err-1 g c =
    let s : SubState = record {
      me = c.self.inside.me;
      parent = c.self.inside.parent;
      tree = c.self.inside.tree;
      given = c.self.inside.given;
      table = c.self.inside.branches;
      manager = g.M.ResourceManager.sight c.self.inside.manager;
    } in
    let b : LiveBranch = decided c.args.xid.now c.args.told in
    let at : IsAt c.self.inside.branches c.args.key c.args.case b =
    subst (λ v. IsAt v.table c.args.key c.args.case b) (sym c.self.view_is) c.requires.at in
    not_tied s (g.M.ResourceManager.sight c.forget.new.manager) c.args.case b call.Forget c.in-Err.error
    c.self.invariant at.live c.in-Err.ensures.err

pub returns-in-Ok-clause-ok : goal.returns-in-Ok-clause-ok
returns-in-Ok-clause-ok g c =
    let s : SubState = record {
      me = c.self.inside.me;
      parent = c.self.inside.parent;
      tree = c.self.inside.tree;
      given = c.self.inside.given;
      table = c.self.inside.branches;
      manager = g.M.ResourceManager.sight c.self.inside.manager;
    } in
    let b : LiveBranch = decided c.args.xid.now c.args.told in
    let at : IsAt c.self.inside.branches c.args.key c.args.case b =
    subst (λ v. IsAt v.table c.args.key c.args.case b) (sym c.self.view_is) c.requires.at in
    let kept : IsBranchTable s.table = subst (λ v. IsBranchTable v.table) (sym c.self.view_is) c.requires.kept
    in
    let m : ManagerSight = g.M.ResourceManager.sight c.forget.new.manager in
    subst (λ v. Acts (seen g.M.ResourceManager.sight v) (behind s c.remove.new.self m) (Forget c.args.case)
    c.in_ok-reaction.reaction) c.self.view_is
    (subst (λ r. Acts s (behind s c.remove.new.self m) (Forget c.args.case) r) (sym c.in_ok-reaction.ensures)
    (forgets s c.args.key c.args.case c.args.xid.now c.args.told c.self.invariant kept at c.remove.new.self m
    c.remove.ensures c.in-Ok.ensures.ok))

pub returns-in-Err-clause-err : goal.returns-in-Err-clause-err
returns-in-Err-clause-err g c =
    let s : SubState = record {
      me = c.self.inside.me;
      parent = c.self.inside.parent;
      tree = c.self.inside.tree;
      given = c.self.inside.given;
      table = c.self.inside.branches;
      manager = g.M.ResourceManager.sight c.self.inside.manager;
    } in
    let b : LiveBranch = decided c.args.xid.now c.args.told in
    let at : IsAt c.self.inside.branches c.args.key c.args.case b =
    subst (λ v. IsAt v.table c.args.key c.args.case b) (sym c.self.view_is) c.requires.at in
    let kept : IsBranchTable s.table = subst (λ v. IsBranchTable v.table) (sym c.self.view_is) c.requires.kept
    in
    let m : ManagerSight = g.M.ResourceManager.sight c.forget.new.manager in
    subst (λ v. NotActed (seen g.M.ResourceManager.sight v) (behind s s.table m) (Forget c.args.case)
    c.in-Err.error) c.self.view_is
    (not_forgotten s c.args.key c.args.case c.args.xid.now c.args.told c.self.invariant kept at m
    c.in-Err.error c.in-Err.ensures.err)
