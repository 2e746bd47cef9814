use Rattle.std.proofs.Common.{ℕ, Result, sym, subst}
use Rattle.std.specs.Prelude.{IfErr, IfOk}
use Rattle.protocol.specs.declared.events.StepError.{StepError}
use Rattle.protocol_words.specs.step_error
use Rattle.process_state.specs.Restarting.{ProcessNotTrimmed, ProcessTrims}
use Rattle.log_records.specs.Sights.{records_of}
use Rattle.resource_manager.specs.Orders.{AreInOrder}
use Rattle.resource_manager.specs.Sights.{ManagerSight}
use Rattle.resource_manager.specs.declared.errors.TrimError.TheVariants as trim_error
use Rattle.resource_manager.specs.Trimming.{ManagerNotTrimmed}
use Rattle.sub_process.specs.Fronts.{IsHeader}
use Rattle.sub_process.specs.Subordinates.{IsTied, SubState, core_of}
use Rattle.sub_process.specs.Steps.{state}
use Rattle.sub_process.proofs.Ties.{behind, header_tied}
use Rattle.sub_process.proofs.Trimmed.{not_trimmed, trimmed_tied, trims, untrimmed_tied}
use Rattle.sub_process.proofs.subordinate.Subordinate.trim.Goals as goal
use Rattle.sub_process.proofs.subordinate.Subordinate.trim.Goals.{in-Ok, in-Err-Memory, in-Err-Device, in-Err-Failed}

pub invariant_of-self : goal.invariant_of-self
invariant_of-self g c =
    let s : SubState = record {
      me = c.self.inside.me;
      parent = c.self.inside.parent;
      tree = c.self.inside.tree;
      given = c.self.inside.given;
      table = c.self.inside.branches;
      manager = g.M.ResourceManager.sight c.self.inside.manager;
    } in
    let m : ManagerSight = g.M.ResourceManager.sight c.trim.new.self in
    let order : AreInOrder (records_of s.manager.log.kept) = c.records_are_in_order.ensures in
    let header : IsHeader c.header.result = c.header.ensures in
    let tied : IsTied c.header.result s = header_tied c.header.result s header c.self.invariant in
    elim c.match-trim.branch [
      | in-Ok w ↦ trimmed_tied s m order tied header w.in-Ok.count w.in-Ok.ensures.ok
      | in-Err-Memory w ↦ untrimmed_tied s m order tied header trim_error.Memory
          (subst (λ e. ManagerNotTrimmed s.manager m e) w.in-Err-Memory.field-0-is
          w.in-Err-Memory.ensures.err)
      | in-Err-Device w ↦ untrimmed_tied s m order tied header trim_error.Device
          (subst (λ e. ManagerNotTrimmed s.manager m e) w.in-Err-Device.field-0-is
          w.in-Err-Device.ensures.err)
      | in-Err-Failed w ↦ untrimmed_tied s m order tied header trim_error.Failed
          (subst (λ e. ManagerNotTrimmed s.manager m e) w.in-Err-Failed.field-0-is
          w.in-Err-Failed.ensures.err)
    ]

pub returns-clause-ok : goal.returns-clause-ok
returns-clause-ok g c =
    let s : SubState = record {
      me = c.self.inside.me;
      parent = c.self.inside.parent;
      tree = c.self.inside.tree;
      given = c.self.inside.given;
      table = c.self.inside.branches;
      manager = g.M.ResourceManager.sight c.self.inside.manager;
    } in
    let m : ManagerSight = g.M.ResourceManager.sight c.trim.new.self in
    let P : Result ℕ StepError → Type 0 = λ r. IfOk r
    (ProcessTrims (state g.M.ResourceManager.sight c.args.self.now) (core_of (behind s s.table m))) in
    elim c.match-trim.branch [
      | in-Ok w ↦ subst P (sym w.result-is)
          (subst (λ v. ProcessTrims (state g.M.ResourceManager.sight v) (core_of (behind s s.table m))
          w.in-Ok.count) c.self.view_is
          (trims s m c.records_are_sound.ensures c.self.invariant.own w.in-Ok.count w.in-Ok.ensures.ok))
      | in-Err-Memory w ↦ subst P (sym w.result-is) tt
      | in-Err-Device w ↦ subst P (sym w.result-is) tt
      | in-Err-Failed w ↦ subst P (sym w.result-is) tt
    ]

pub returns-clause-err : goal.returns-clause-err
returns-clause-err g c =
    let s : SubState = record {
      me = c.self.inside.me;
      parent = c.self.inside.parent;
      tree = c.self.inside.tree;
      given = c.self.inside.given;
      table = c.self.inside.branches;
      manager = g.M.ResourceManager.sight c.self.inside.manager;
    } in
    let m : ManagerSight = g.M.ResourceManager.sight c.trim.new.self in
    let P : Result ℕ StepError → Type 0 = λ r. IfErr r
    (ProcessNotTrimmed (state g.M.ResourceManager.sight c.args.self.now) (core_of (behind s s.table m))) in
    elim c.match-trim.branch [
      | in-Ok w ↦ subst P (sym w.result-is) tt
      | in-Err-Memory w ↦ subst P (sym w.result-is)
          (subst (λ v. ProcessNotTrimmed (state g.M.ResourceManager.sight v) (core_of (behind s s.table m))
          step_error.Memory) c.self.view_is
          (not_trimmed s m c.records_are_sound.ensures c.self.invariant.own trim_error.Memory
          (subst (λ e. ManagerNotTrimmed s.manager m e) w.in-Err-Memory.field-0-is
          w.in-Err-Memory.ensures.err)))
      | in-Err-Device w ↦ subst P (sym w.result-is)
          (subst (λ v. ProcessNotTrimmed (state g.M.ResourceManager.sight v) (core_of (behind s s.table m))
          step_error.Device) c.self.view_is
          (not_trimmed s m c.records_are_sound.ensures c.self.invariant.own trim_error.Device
          (subst (λ e. ManagerNotTrimmed s.manager m e) w.in-Err-Device.field-0-is
          w.in-Err-Device.ensures.err)))
      | in-Err-Failed w ↦ subst P (sym w.result-is)
          (subst (λ v. ProcessNotTrimmed (state g.M.ResourceManager.sight v) (core_of (behind s s.table m))
          step_error.Failed) c.self.view_is
          (not_trimmed s m c.records_are_sound.ensures c.self.invariant.own trim_error.Failed
          (subst (λ e. ManagerNotTrimmed s.manager m e) w.in-Err-Failed.field-0-is
          w.in-Err-Failed.ensures.err)))
    ]
