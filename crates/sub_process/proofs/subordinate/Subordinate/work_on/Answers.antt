use Rattle.std.proofs.Common.{true, false, refl, sym, ap, subst}
use Rattle.protocol.specs.declared.messages.Message.TheVariants.{Work}
use Rattle.case_table.specs.Tables.{value_of}
use Rattle.resource_manager.specs.Sights.{ManagerSight}
use Rattle.sub_work.specs.Deeds.{BranchWorks}
use Rattle.sub_branches.specs.declared.branch.LiveBranch.{LiveBranch}
use Rattle.sub_process.specs.Subordinates.{Hears, IsAt, SubState, active, seen}
use Rattle.sub_process.proofs.Ties.{behind}
use Rattle.sub_process.proofs.Doing.{did, did_tied, idles_tied, spoils, spoils_tied}
use Rattle.sub_process.proofs.subordinate.Subordinate.work_on.Goals as goal

pub work-requires-clause-named : goal.work-requires-clause-named
work-requires-clause-named g c =
    let b : LiveBranch = active c.args.xid.now c.args.given_for c.args.done false in
    let at : IsAt c.self.inside.branches c.args.key c.args.case b =
    subst (λ v. IsAt v.table c.args.key c.args.case b) (sym c.self.view_is) c.requires.at in
    (c.self.invariant.named c.args.case b at.live).real

pub work-requires-clause-state : goal.work-requires-clause-state
work-requires-clause-state g c =
    let b : LiveBranch = active c.args.xid.now c.args.given_for c.args.done false in
    let at : IsAt c.self.inside.branches c.args.key c.args.case b =
    subst (λ v. IsAt v.table c.args.key c.args.case b) (sym c.self.view_is) c.requires.at in
    c.self.invariant.stands c.args.case b at.live

pub note-requires : goal.note-requires
note-requires g c =
    let b : LiveBranch = active c.args.xid.now c.args.given_for c.args.done false in
    let at : IsAt c.self.inside.branches c.args.key c.args.case b =
    subst (λ v. IsAt v.table c.args.key c.args.case b) (sym c.self.view_is) c.requires.at in
    (b, ap value_of at.entry, refl)

pub note-requires-in-Ok-false : goal.note-requires-in-Ok-false
note-requires-in-Ok-false g c =
    let b : LiveBranch = active c.args.xid.now c.args.given_for c.args.done false in
    let at : IsAt c.self.inside.branches c.args.key c.args.case b =
    subst (λ v. IsAt v.table c.args.key c.args.case b) (sym c.self.view_is) c.requires.at in
    (b, ap value_of at.entry, refl)

pub invariant_of-self : goal.invariant_of-self
invariant_of-self g c =
    let s : SubState = record {
      me = c.self.inside.me;
      parent = c.self.inside.parent;
      tree = c.self.inside.tree;
      given = c.self.inside.given;
      table = c.self.inside.branches;
      manager = g.M.ResourceManager.sight c.self.inside.manager;
    } in
    let b : LiveBranch = active c.args.xid.now c.args.given_for c.args.done false in
    let at : IsAt c.self.inside.branches c.args.key c.args.case b =
    subst (λ v. IsAt v.table c.args.key c.args.case b) (sym c.self.view_is) c.requires.at in
    let m : ManagerSight = g.M.ResourceManager.sight c.work.new.manager in
    let does : BranchWorks s.manager m c.args.xid.now c.args.op.now true =
    subst (λ r. BranchWorks s.manager m c.args.xid.now
    c.args.op.now r) c.in-Ok-true.field-0-test c.in-Ok-true.ensures.ok in
    did_tied s c.args.key c.args.case c.args.given_for c.args.done c.args.number c.args.xid.now c.args.op.now
    c.self.invariant at c.requires.next c.note.new.self m c.note.ensures does

pub invariant_of-self-in-Ok-false : goal.invariant_of-self-in-Ok-false
invariant_of-self-in-Ok-false g c =
    let s : SubState = record {
      me = c.self.inside.me;
      parent = c.self.inside.parent;
      tree = c.self.inside.tree;
      given = c.self.inside.given;
      table = c.self.inside.branches;
      manager = g.M.ResourceManager.sight c.self.inside.manager;
    } in
    let b : LiveBranch = active c.args.xid.now c.args.given_for c.args.done false in
    let at : IsAt c.self.inside.branches c.args.key c.args.case b =
    subst (λ v. IsAt v.table c.args.key c.args.case b) (sym c.self.view_is) c.requires.at in
    let m : ManagerSight = g.M.ResourceManager.sight c.work.new.manager in
    let does : BranchWorks s.manager m c.args.xid.now c.args.op.now false =
    subst (λ r. BranchWorks s.manager m c.args.xid.now
    c.args.op.now r) c.in-Ok-false.field-0-test c.in-Ok-false.ensures.ok in
    spoils_tied s c.args.key c.args.case c.args.given_for c.args.done c.args.number
    c.args.xid.now c.args.op.now
    c.self.invariant at c.requires.next c.note-in-Ok-false.new.self m c.note-in-Ok-false.ensures does

pub invariant_of-self-in-Err : goal.invariant_of-self-in-Err
invariant_of-self-in-Err g c =
    let s : SubState = record {
      me = c.self.inside.me;
      parent = c.self.inside.parent;
      tree = c.self.inside.tree;
      given = c.self.inside.given;
      table = c.self.inside.branches;
      manager = g.M.ResourceManager.sight c.self.inside.manager;
    } in
    let b : LiveBranch = active c.args.xid.now c.args.given_for c.args.done false in
    let at : IsAt c.self.inside.branches c.args.key c.args.case b =
    subst (λ v. IsAt v.table c.args.key c.args.case b) (sym c.self.view_is) c.requires.at in
    let m : ManagerSight = g.M.ResourceManager.sight c.work.new.manager in
    idles_tied s c.args.key c.args.case c.args.given_for c.args.done c.args.number
    c.args.xid.now c.args.op.now
    c.self.invariant at c.requires.next m c.in-Err.ensures.err

pub returns-in-Ok-true-clause-ok : goal.returns-in-Ok-true-clause-ok
returns-in-Ok-true-clause-ok g c =
    let s : SubState = record {
      me = c.self.inside.me;
      parent = c.self.inside.parent;
      tree = c.self.inside.tree;
      given = c.self.inside.given;
      table = c.self.inside.branches;
      manager = g.M.ResourceManager.sight c.self.inside.manager;
    } in
    let b : LiveBranch = active c.args.xid.now c.args.given_for c.args.done false in
    let at : IsAt c.self.inside.branches c.args.key c.args.case b =
    subst (λ v. IsAt v.table c.args.key c.args.case b) (sym c.self.view_is) c.requires.at in
    let m : ManagerSight = g.M.ResourceManager.sight c.work.new.manager in
    let does : BranchWorks s.manager m c.args.xid.now c.args.op.now true =
    subst (λ r. BranchWorks s.manager m c.args.xid.now
    c.args.op.now r) c.in-Ok-true.field-0-test c.in-Ok-true.ensures.ok in
    subst (λ v. Hears (seen g.M.ResourceManager.sight v) (behind s c.note.new.self m)
    (Work c.args.case c.args.number c.args.op.now) c.silence.result) c.self.view_is
    (subst (λ r. Hears s (behind s c.note.new.self m)
    (Work c.args.case c.args.number c.args.op.now) r) (sym c.silence.ensures)
    (did s c.args.key c.args.case c.args.given_for c.args.done c.args.number c.args.xid.now c.args.op.now
    c.self.invariant at c.requires.next c.note.new.self m c.note.ensures does))

pub returns-in-Ok-false-clause-ok : goal.returns-in-Ok-false-clause-ok
returns-in-Ok-false-clause-ok g c =
    let s : SubState = record {
      me = c.self.inside.me;
      parent = c.self.inside.parent;
      tree = c.self.inside.tree;
      given = c.self.inside.given;
      table = c.self.inside.branches;
      manager = g.M.ResourceManager.sight c.self.inside.manager;
    } in
    let b : LiveBranch = active c.args.xid.now c.args.given_for c.args.done false in
    let at : IsAt c.self.inside.branches c.args.key c.args.case b =
    subst (λ v. IsAt v.table c.args.key c.args.case b) (sym c.self.view_is) c.requires.at in
    let m : ManagerSight = g.M.ResourceManager.sight c.work.new.manager in
    let does : BranchWorks s.manager m c.args.xid.now c.args.op.now false =
    subst (λ r. BranchWorks s.manager m c.args.xid.now
    c.args.op.now r) c.in-Ok-false.field-0-test c.in-Ok-false.ensures.ok in
    subst (λ v. Hears (seen g.M.ResourceManager.sight v) (behind s c.note-in-Ok-false.new.self m)
    (Work c.args.case c.args.number c.args.op.now) c.silence-in-Ok-false.result) c.self.view_is
    (subst (λ r. Hears s (behind s c.note-in-Ok-false.new.self m)
    (Work c.args.case c.args.number c.args.op.now) r) (sym c.silence-in-Ok-false.ensures)
    (spoils s c.args.key c.args.case c.args.given_for c.args.done c.args.number c.args.xid.now c.args.op.now
    c.self.invariant at c.requires.next c.note-in-Ok-false.new.self m c.note-in-Ok-false.ensures does))
