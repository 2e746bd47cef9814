use Rattle.std.proofs.Common.{◌≡◌, ◌+◌, ◌++◌, ◌∷◌, [], None, sym, subst}
use Rattle.xa_words.specs.code
use Rattle.log_records.specs.Sights.{left_by}
use Rattle.process_state.specs.Restarting.{ProcessNotRestarted, ProcessRestarts}
use Rattle.protocol.specs.declared.events.StepError.TheVariants.{Device, Exhausted, Memory}
use Rattle.resource_manager.specs.Sights.{ManagerSight}
use Rattle.resource_manager.specs.Restarting.{ManagerNotRestarted, boot_record}
use Rattle.sub_branches.specs.declared.rebuilt.RebuiltBranches.{RebuiltBranches}
use Rattle.sub_branches.specs.Rebuilt.{RebuildsBranches}
use Rattle.sub_branches.specs.Remembered.{RemembersBranches}
use Rattle.protocol.specs.Views.{leaf_place}
use Rattle.sub_process.specs.declared.subordinate.Front.{Front}
use Rattle.sub_process.specs.Fronts.{IsFrontOf, IsHeader}
use Rattle.sub_process.specs.Subordinates.{IsTied, SubState, core_of, seen}
use Rattle.sub_process.specs.Steps.{LeavesPromises, Reopens, state}
use Rattle.sub_process.proofs.Restarted.{boots_used, broken, broken_tied, promises_left, reopened_front, reopened_tied, reopened_works, restarted}
use Rattle.sub_process.proofs.Rows.{same_keeps}
use Rattle.sub_process.proofs.Ties.{behind, header_tied, same_tied}
use Rattle.sub_process.proofs.subordinate.Subordinate.restart.Goals as goal

pub ready-requires : goal.ready-requires
ready-requires g c =
    let s : SubState = record {
      me = c.self.inside.me;
      parent = c.self.inside.parent;
      tree = c.self.inside.tree;
      given = c.self.inside.given;
      table = c.self.inside.branches;
      manager = g.M.ResourceManager.sight c.self.inside.manager;
    } in
    subst (IsFrontOf (leaf_place s.me s.parent s.tree) s.manager.log) (sym c.replace-front.ensures.value)
    c.self.invariant.reached.front

pub invariant_of-self : goal.invariant_of-self
invariant_of-self g c =
    let s : SubState = record {
      me = c.self.inside.me;
      parent = c.self.inside.parent;
      tree = c.self.inside.tree;
      given = c.self.inside.given;
      table = c.self.inside.branches;
      manager = g.M.ResourceManager.sight c.self.inside.manager;
    } in
    header_tied c.replace-front.new.dest s (subst IsHeader (sym c.replace-front.ensures.after)
    c.header.ensures) c.self.invariant

pub invariant_of-self-in_err-rebuilt : goal.invariant_of-self-in_err-rebuilt
invariant_of-self-in_err-rebuilt g c =
    let s : SubState = record {
      me = c.self.inside.me;
      parent = c.self.inside.parent;
      tree = c.self.inside.tree;
      given = c.self.inside.given;
      table = c.self.inside.branches;
      manager = g.M.ResourceManager.sight c.self.inside.manager;
    } in
    header_tied c.replace-front.new.dest s (subst IsHeader (sym c.replace-front.ensures.after)
    c.header.ensures)
    c.self.invariant

pub invariant_of-self-in-Ok : goal.invariant_of-self-in-Ok
invariant_of-self-in-Ok g c =
    let s : SubState = record {
      me = c.self.inside.me;
      parent = c.self.inside.parent;
      tree = c.self.inside.tree;
      given = c.self.inside.given;
      table = c.self.inside.branches;
      manager = g.M.ResourceManager.sight c.self.inside.manager;
    } in
    let r : RebuiltBranches = c.in_ok-rebuilt.rebuilt in
    let re : Reopens s.manager (g.M.ResourceManager.sight c.reopen.new.manager)
    c.args.keep = c.in-Ok.ensures.ok in
    let m : ManagerSight = g.M.ResourceManager.sight c.reopen.new.manager in
    let made : RebuildsBranches (leaf_place s.me s.parent s.tree) s.parent
    (left_by s.manager.log c.args.keep) r =
    c.in_ok-rebuilt.ensures.ok in
    let f : Front = record { size = c.log_size.result; remembered = c.in_ok-rebuilt.remembered } in
    let works = reopened_works s c.args.keep r re.mid m (λ answer. answer ≡ code.RmFail)
    re.answer made re.restarts re.calls c.self.invariant.own in
    let says : RemembersBranches (leaf_place s.me s.parent s.tree) s.parent
    (left_by s.manager.log c.args.keep ++ boot_record (r.boot + 1) ∷ []) f.remembered =
    c.in_ok-rebuilt.ensures.remembered in
    reopened_tied s c.args.keep r re.mid m (λ answer. answer ≡ code.RmFail)
    re.answer made re.restarts re.calls c.self.invariant.own f
    (reopened_front s c.args.keep r re.mid m (λ answer. answer ≡ code.RmFail)
    re.answer made re.restarts re.calls c.self.invariant.own f (c.log_size.ensures works) says)

pub returns-in-Ok-clause-ok : goal.returns-in-Ok-clause-ok
returns-in-Ok-clause-ok g c =
    let s : SubState = record {
      me = c.self.inside.me;
      parent = c.self.inside.parent;
      tree = c.self.inside.tree;
      given = c.self.inside.given;
      table = c.self.inside.branches;
      manager = g.M.ResourceManager.sight c.self.inside.manager;
    } in
    let r : RebuiltBranches = c.in_ok-rebuilt.rebuilt in
    let re : Reopens s.manager (g.M.ResourceManager.sight c.reopen.new.manager)
    c.args.keep = c.in-Ok.ensures.ok in
    let m : ManagerSight = g.M.ResourceManager.sight c.reopen.new.manager in
    let n : SubState = record {
      me = s.me;
      parent = s.parent;
      tree = s.tree;
      given = 0;
      table = r.branches;
      manager = m;
    } in
    let made : RebuildsBranches (leaf_place s.me s.parent s.tree) s.parent
    (left_by s.manager.log c.args.keep) r =
    c.in_ok-rebuilt.ensures.ok in
    subst (λ v. ProcessRestarts (state g.M.ResourceManager.sight v) c.args.keep (core_of n)
    (record {
      begun = None;
      written = c.in_ok-rebuilt.written;
      told = None;
      messages = r.messages;
      kept = None;
    })) c.self.view_is
    (subst (λ w. ProcessRestarts (core_of s) c.args.keep (core_of n)
    (record { begun = None; written = w; told = None; messages = r.messages; kept = None }))
    (sym c.in_ok-rebuilt.ensures.written)
    (restarted s c.args.keep r re.mid m (λ answer. answer ≡ code.RmFail) re.answer made re.restarts re.calls
    c.self.invariant.own))

pub invariant_of-self-in-Err-Memory : goal.invariant_of-self-in-Err-Memory
invariant_of-self-in-Err-Memory g c =
    let s : SubState = record {
      me = c.self.inside.me;
      parent = c.self.inside.parent;
      tree = c.self.inside.tree;
      given = c.self.inside.given;
      table = c.self.inside.branches;
      manager = g.M.ResourceManager.sight c.self.inside.manager;
    } in
    let header : IsHeader c.replace-front.new.dest = subst IsHeader (sym c.replace-front.ensures.after)
    c.header.ensures in
    let tied : IsTied c.replace-front.new.dest s = header_tied c.replace-front.new.dest s header
    c.self.invariant in
    same_tied s (g.M.ResourceManager.sight c.reopen.new.manager) tied
    (subst (λ e. ManagerNotRestarted s.manager (g.M.ResourceManager.sight c.reopen.new.manager) c.args.keep e)
    c.in-Err-Memory.field-0-is c.in-Err-Memory.ensures.err)

pub invariant_of-self-in-Err-Exhausted : goal.invariant_of-self-in-Err-Exhausted
invariant_of-self-in-Err-Exhausted g c =
    let s : SubState = record {
      me = c.self.inside.me;
      parent = c.self.inside.parent;
      tree = c.self.inside.tree;
      given = c.self.inside.given;
      table = c.self.inside.branches;
      manager = g.M.ResourceManager.sight c.self.inside.manager;
    } in
    let why = subst (λ e. ManagerNotRestarted s.manager
    (g.M.ResourceManager.sight c.reopen.new.manager) c.args.keep e)
    c.in-Err-Exhausted.field-0-is c.in-Err-Exhausted.ensures.err in
    let header : IsHeader c.replace-front.new.dest = subst IsHeader (sym c.replace-front.ensures.after)
    c.header.ensures in
    let tied : IsTied c.replace-front.new.dest s = header_tied c.replace-front.new.dest s header
    c.self.invariant in
    same_tied s (g.M.ResourceManager.sight c.reopen.new.manager) tied why.0

pub invariant_of-self-in-Err-Device : goal.invariant_of-self-in-Err-Device
invariant_of-self-in-Err-Device g c =
    let s : SubState = record {
      me = c.self.inside.me;
      parent = c.self.inside.parent;
      tree = c.self.inside.tree;
      given = c.self.inside.given;
      table = c.self.inside.branches;
      manager = g.M.ResourceManager.sight c.self.inside.manager;
    } in
    let header : IsHeader c.replace-front.new.dest = subst IsHeader (sym c.replace-front.ensures.after)
    c.header.ensures in
    let tied : IsTied c.replace-front.new.dest s = header_tied c.replace-front.new.dest s header
    c.self.invariant in
    broken_tied s (g.M.ResourceManager.sight c.reopen.new.manager) c.args.keep tied
    (subst (λ e. ManagerNotRestarted s.manager (g.M.ResourceManager.sight c.reopen.new.manager) c.args.keep e)
    c.in-Err-Device.field-0-is c.in-Err-Device.ensures.err)

pub returns-clause-err : goal.returns-clause-err
returns-clause-err g c =
    let s : SubState = record {
      me = c.self.inside.me;
      parent = c.self.inside.parent;
      tree = c.self.inside.tree;
      given = c.self.inside.given;
      table = c.self.inside.branches;
      manager = g.M.ResourceManager.sight c.self.inside.manager;
    } in
    let m : ManagerSight = g.M.ResourceManager.sight c.reopen.new.manager in
    subst (λ v. ProcessNotRestarted (state g.M.ResourceManager.sight v) c.args.keep
    (core_of (behind s s.table m)) Device) c.self.view_is
    (broken s m c.args.keep
    (subst (λ e. ManagerNotRestarted s.manager m c.args.keep e) c.in-Err-Device.field-0-is
    c.in-Err-Device.ensures.err))

pub returns-in-Err-Memory-clause-err : goal.returns-in-Err-Memory-clause-err
returns-in-Err-Memory-clause-err g c =
    let s : SubState = record {
      me = c.self.inside.me;
      parent = c.self.inside.parent;
      tree = c.self.inside.tree;
      given = c.self.inside.given;
      table = c.self.inside.branches;
      manager = g.M.ResourceManager.sight c.self.inside.manager;
    } in
    let m : ManagerSight = g.M.ResourceManager.sight c.reopen.new.manager in
    let why = subst (λ e. ManagerNotRestarted s.manager m c.args.keep e) c.in-Err-Memory.field-0-is
    c.in-Err-Memory.ensures.err in
    subst (λ v. ProcessNotRestarted (state g.M.ResourceManager.sight v) c.args.keep
    (core_of (behind s s.table m)) Memory) c.self.view_is
    (same_keeps s m why).core

pub returns-in-Err-Exhausted-clause-err : goal.returns-in-Err-Exhausted-clause-err
returns-in-Err-Exhausted-clause-err g c =
    let s : SubState = record {
      me = c.self.inside.me;
      parent = c.self.inside.parent;
      tree = c.self.inside.tree;
      given = c.self.inside.given;
      table = c.self.inside.branches;
      manager = g.M.ResourceManager.sight c.self.inside.manager;
    } in
    let m : ManagerSight = g.M.ResourceManager.sight c.reopen.new.manager in
    let why = subst (λ e. ManagerNotRestarted s.manager m c.args.keep e) c.in-Err-Exhausted.field-0-is
    c.in-Err-Exhausted.ensures.err in
    subst (λ v. ProcessNotRestarted (state g.M.ResourceManager.sight v) c.args.keep
    (core_of (behind s s.table m)) Exhausted) c.self.view_is
    (boots_used s m c.args.keep why.0 why.1)

pub returns-in-Ok-clause-writes : goal.returns-in-Ok-clause-writes
returns-in-Ok-clause-writes g c =
    let m : ManagerSight = g.M.ResourceManager.sight c.reopen.new.manager in
    let re : Reopens (g.M.ResourceManager.sight c.self.inside.manager) m c.args.keep = c.in-Ok.ensures.ok in
    let s : SubState = record {
      me = c.self.inside.me;
      parent = c.self.inside.parent;
      tree = c.self.inside.tree;
      given = c.self.inside.given;
      table = c.self.inside.branches;
      manager = g.M.ResourceManager.sight c.self.inside.manager;
    } in
    subst (λ v. LeavesPromises (seen g.M.ResourceManager.sight v) c.args.keep
    (record {
      me = s.me;
      parent = s.parent;
      tree = s.tree;
      given = 0;
      table = c.in_ok-rebuilt.rebuilt.branches;
      manager = m;
    })) c.self.view_is
    (promises_left s.manager re.mid m c.args.keep (λ answer. answer ≡ code.RmFail) re.answer
    re.restarts re.calls)
