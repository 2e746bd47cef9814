use Rattle.std.proofs.Common.{◌∙◌, refl, sym, ap, subst}
use Rattle.protocol.specs.declared.events.Act.TheVariants.{Decide}
use Rattle.case_table.specs.Tables.{value_of}
use Rattle.resource_manager.specs.Sights.{ManagerSight}
use Rattle.sub_branches.specs.declared.branch.LiveBranch.{LiveBranch}
use Rattle.sub_process.specs.Subordinates.{IsAt, SubState, logged_alone, prepared, seen}
use Rattle.sub_process.specs.Steps.{Acts, NotActed}
use Rattle.sub_process.proofs.Ties.{behind}
use Rattle.sub_process.proofs.Decisions.{decides, decides_tied, not_decided}
use Rattle.sub_process.proofs.Ends.{undecided_tied}
use Rattle.sub_process.proofs.subordinate.Subordinate.decide_prepared.Goals as goal

pub decide-requires-clause-state : goal.decide-requires-clause-state
decide-requires-clause-state g c =
    let b : LiveBranch = prepared c.args.xid.now in
    let at : IsAt c.self.inside.branches c.args.key c.args.case b =
    subst (λ v. IsAt v.table c.args.key c.args.case b) (sym c.self.view_is) c.requires.at in
    c.self.invariant.stands c.args.case b at.live

pub decide-requires-in-Ok : goal.decide-requires-in-Ok
decide-requires-in-Ok g c =
    let b : LiveBranch = prepared c.args.xid.now in
    let at : IsAt c.self.inside.branches c.args.key c.args.case b =
    subst (λ v. IsAt v.table c.args.key c.args.case b) (sym c.self.view_is) c.requires.at in
    (b, ap value_of at.entry, refl)

pub invariant_of-self : goal.invariant_of-self
invariant_of-self g c =
    let s : SubState = record {
      me = c.self.inside.me;
      parent = c.self.inside.parent;
      tree = c.self.inside.tree;
      given = c.self.inside.given;
      table = c.self.inside.branches;
      manager = g.M.ResourceManager.sight c.self.inside.manager;
    } in
    let b : LiveBranch = prepared c.args.xid.now in
    let at : IsAt c.self.inside.branches c.args.key c.args.case b =
    subst (λ v. IsAt v.table c.args.key c.args.case b) (sym c.self.view_is) c.requires.at in
    let m : ManagerSight = g.M.ResourceManager.sight c.decide.new.manager in
    decides_tied s c.args.key c.args.case c.args.xid.now c.args.outcome c.self.invariant at
    c.decide-in-Ok.new.self m c.decide-in-Ok.ensures c.in-Ok.ensures.ok

pub invariant_of-self-in-Err-1 : goal.invariant_of-self-in-Err-1
invariant_of-self-in-Err-1 g c =
    let s : SubState = record {
      me = c.self.inside.me;
      parent = c.self.inside.parent;
      tree = c.self.inside.tree;
      given = c.self.inside.given;
      table = c.self.inside.branches;
      manager = g.M.ResourceManager.sight c.self.inside.manager;
    } in
    let b : LiveBranch = prepared c.args.xid.now in
    let at : IsAt c.self.inside.branches c.args.key c.args.case b =
    subst (λ v. IsAt v.table c.args.key c.args.case b) (sym c.self.view_is) c.requires.at in
    undecided_tied s (g.M.ResourceManager.sight c.decide.new.manager) c.args.case b
    c.args.outcome c.in-Err.error
    c.self.invariant at.live c.in-Err.ensures.err

pub returns-in-Ok-clause-ok : goal.returns-in-Ok-clause-ok
returns-in-Ok-clause-ok g c =
    let s : SubState = record {
      me = c.self.inside.me;
      parent = c.self.inside.parent;
      tree = c.self.inside.tree;
      given = c.self.inside.given;
      table = c.self.inside.branches;
      manager = g.M.ResourceManager.sight c.self.inside.manager;
    } in
    let b : LiveBranch = prepared c.args.xid.now in
    let at : IsAt c.self.inside.branches c.args.key c.args.case b =
    subst (λ v. IsAt v.table c.args.key c.args.case b) (sym c.self.view_is) c.requires.at in
    let m : ManagerSight = g.M.ResourceManager.sight c.decide.new.manager in
    subst (λ v. Acts (seen g.M.ResourceManager.sight v) (behind s c.decide-in-Ok.new.self m)
    (Decide c.args.case c.args.outcome) c.in_ok-reaction.reaction) c.self.view_is
    (subst (λ r. Acts s (behind s c.decide-in-Ok.new.self m) (Decide c.args.case c.args.outcome) r)
    (sym (c.in_ok-reaction.ensures ∙ ap (λ k. logged_alone k c.args.case) c.decision_kind.ensures))
    (decides s c.args.key c.args.case c.args.xid.now c.args.outcome c.self.invariant at
    c.decide-in-Ok.new.self m
    c.decide-in-Ok.ensures c.in-Ok.ensures.ok))

pub returns-in-Err-clause-err : goal.returns-in-Err-clause-err
returns-in-Err-clause-err g c =
    let s : SubState = record {
      me = c.self.inside.me;
      parent = c.self.inside.parent;
      tree = c.self.inside.tree;
      given = c.self.inside.given;
      table = c.self.inside.branches;
      manager = g.M.ResourceManager.sight c.self.inside.manager;
    } in
    let b : LiveBranch = prepared c.args.xid.now in
    let at : IsAt c.self.inside.branches c.args.key c.args.case b =
    subst (λ v. IsAt v.table c.args.key c.args.case b) (sym c.self.view_is) c.requires.at in
    let m : ManagerSight = g.M.ResourceManager.sight c.decide.new.manager in
    subst (λ v. NotActed (seen g.M.ResourceManager.sight v) (behind s s.table m)
    (Decide c.args.case c.args.outcome) c.in-Err.error) c.self.view_is
    (not_decided s c.args.key c.args.case c.args.xid.now c.args.outcome c.self.invariant at m
    c.in-Err.error c.in-Err.ensures.err)
