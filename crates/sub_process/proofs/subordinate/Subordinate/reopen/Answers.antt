use Rattle.std.proofs.Common.{◌≡◌, ◌∙◌, List, None, refl, ap, sym, subst}
use Rattle.xa_words.specs.code
use Rattle.protocol.specs.declared.records.ShownRecord.{ShownRecord}
use Rattle.log_records.specs.Sights.{LogSight}
use Rattle.process_state.specs.Restarting.{ProcessRestarts}
use Rattle.resource_manager.specs.Sights.{ManagerSight}
use Rattle.sub_branches.specs.declared.rebuilt.RebuiltBranches.{RebuiltBranches}
use Rattle.sub_process.specs.Subordinates.{SubState, core_of}
use Rattle.sub_process.proofs.Reopened.{not_over, over_left, over_promises, over_tied}
use Rattle.sub_process.proofs.subordinate.Subordinate.reopen.Goals as goal

pub invariant_of-subordinate : goal.invariant_of-subordinate
invariant_of-subordinate g c =
    let r : RebuiltBranches = c.in-Ok.rebuilt in
    let s : SubState = record {
      me = c.args.me;
      parent = c.args.parent;
      tree = c.args.tree;
      given = 0;
      table = r.branches;
      manager = c.requires.restarted.old;
    } in
    over_tied s c.requires.restarted.keep r (g.M.ResourceManager.sight c.args.manager)
    (g.M.ResourceManager.sight c.open.new.self) (λ answer. answer ≡ code.RmFail) c.open.result
    c.in-Ok.ensures.ok c.requires.restarted.restarts c.open.ensures
    (sym (ap (λ (l : LogSight). l.form) c.requires.restarted.restarts.log) ∙ c.requires.own) c.header.result
    c.header.ensures

pub returns-in-Ok-clause-ok : goal.returns-in-Ok-clause-ok
returns-in-Ok-clause-ok g c = λ before all restarts old so keep left.
    let r : RebuiltBranches = c.in-Ok.rebuilt in
    let m : ManagerSight = g.M.ResourceManager.sight c.open.new.self in
    let s : SubState = record {
      me = c.args.me;
      parent = c.args.parent;
      tree = c.args.tree;
      given = 0;
      table = r.branches;
      manager = before;
    } in
    let n : SubState = record {
      me = c.args.me;
      parent = c.args.parent;
      tree = c.args.tree;
      given = 0;
      table = r.branches;
      manager = m;
    } in
    subst (λ (ws : List ShownRecord). ProcessRestarts old keep (core_of n)
    (record { begun = None; written = ws; told = None; messages = r.messages; kept = None }))
    (sym c.in-Ok.ensures.written)
    (over_left s all r (g.M.ResourceManager.sight c.args.manager) m
    (λ answer. answer ≡ code.RmFail) c.open.result
    c.in-Ok.ensures.ok restarts c.open.ensures
    (sym (ap (λ (l : LogSight). l.form) restarts.log) ∙ c.requires.own) old so keep left)

pub returns-in-Ok-clause-writes : goal.returns-in-Ok-clause-writes
returns-in-Ok-clause-writes g c = λ before all restarts.
    let r : RebuiltBranches = c.in-Ok.rebuilt in
    let s : SubState = record {
      me = c.args.me;
      parent = c.args.parent;
      tree = c.args.tree;
      given = 0;
      table = r.branches;
      manager = before;
    } in
    over_promises s all r (g.M.ResourceManager.sight c.args.manager)
    (g.M.ResourceManager.sight c.open.new.self)
    (λ answer. answer ≡ code.RmFail) c.open.result c.in-Ok.ensures.ok restarts c.open.ensures
    (sym (ap (λ (l : LogSight). l.form) restarts.log) ∙ c.requires.own)

pub returns-in-Err-clause-err : goal.returns-in-Err-clause-err
returns-in-Err-clause-err g c = (
  not_over (g.M.ResourceManager.sight c.args.manager) c.args.me c.args.parent c.args.tree
      c.records_are_sound.ensures c.requires.restarted c.in-Err.error c.in-Err.ensures.err,
  refl,
)
