use Rattle.std.proofs.Common.{◌∙◌, IfErr, List, map, refl, subst, sym}
use Rattle.protocol.specs.declared.records.LogRecord.{LogRecord}
use Rattle.log_text.specs.Made.{frame_record}
use Rattle.log_records.specs.Sights.{LogNotRestarted, LogRestarts, left_by}
use Rattle.process_state.specs.Restarting.{ProcessNotRestarted, ProcessRestarts}
use Rattle.coord_cases.specs.Restores.{RebuildsCases}
use Rattle.coord_process.specs.Fronts.{IsRemembered}
use Rattle.coord_process.specs.States.{CoordinatorValue, error_of, place_of, state}
use Rattle.coord_process.proofs.Fronts.{remembered_restarted}
use Rattle.coord_process.proofs.Restarted.{is_coordinator, not_rebuilt, not_restarted, rebuilt_as, restarts}
use Rattle.coord_cases.proofs.Framed.{made_error}
use Rattle.coord_process.proofs.coordinator.Coordinator.restart.Goals as goal

pub invariant_of-self : goal.invariant_of-self
invariant_of-self g c =
    let v : CoordinatorValue = record {
      me = c.self.inside.me;
      parent = c.self.inside.parent;
      tree = c.self.inside.tree;
      log = c.self.inside.log;
      boot = c.self.inside.boot;
      begun = c.self.inside.begun;
      given = c.self.inside.given;
      slots = c.self.inside.cases;
    } in
    (c.self.invariant.0, subst (IsRemembered v) (sym c.take-front.ensures.after) tt)

pub invariant_of-self-2 : goal.invariant_of-self-2
invariant_of-self-2 g c =
    let v : CoordinatorValue = record {
      me = c.self.inside.me;
      parent = c.self.inside.parent;
      tree = c.self.inside.tree;
      log = c.self.inside.log;
      boot = c.self.inside.boot;
      begun = c.self.inside.begun;
      given = c.self.inside.given;
      slots = c.self.inside.cases;
    } in
    let ls : List LogRecord = left_by v.log.sight c.args.keep in
    let rebuilds : RebuildsCases (place_of v) ls c.in_ok-rebuilt.rebuilt =
    c.in_ok-rebuilt.ensures.ok v.tree ls (c.in_ok-remembered.ensures {u = tt}) in
    let restarted : LogRestarts c.self.inside.log c.restart.new.self c.args.keep
    (map frame_record c.in_ok-rebuilt.rebuilt.frames.items) =
    subst (λ frames. LogRestarts c.self.inside.log c.restart.new.self c.args.keep (map frame_record frames))
    c.deref.ensures.value c.in_default.ensures.ok in (
      is_coordinator v ls c.in_ok-rebuilt.rebuilt c.restart.new.self rebuilds
          (c.restart.ensures.form ∙ c.self.invariant.0.form),
      remembered_restarted v c.args.keep c.in_ok-rebuilt.rebuilt c.restart.new.self c.size.result
          rebuilds restarted
          (c.size.ensures.whole restarted.works),
    )

pub returns-clause-ok : goal.returns-clause-ok
returns-clause-ok g c =
    let v : CoordinatorValue = record {
      me = c.self.inside.me;
      parent = c.self.inside.parent;
      tree = c.self.inside.tree;
      log = c.self.inside.log;
      boot = c.self.inside.boot;
      begun = c.self.inside.begun;
      given = c.self.inside.given;
      slots = c.self.inside.cases;
    } in
    let restarted : LogRestarts c.self.inside.log c.restart.new.self c.args.keep
    (map frame_record c.in_ok-rebuilt.rebuilt.frames.items) =
    subst (λ frames. LogRestarts c.self.inside.log c.restart.new.self c.args.keep (map frame_record frames))
    c.deref.ensures.value c.in_default.ensures.ok in
    let ls : List LogRecord = left_by v.log.sight c.args.keep in
    let rebuilds : RebuildsCases (place_of v) ls c.in_ok-rebuilt.rebuilt =
    c.in_ok-rebuilt.ensures.ok v.tree ls (c.in_ok-remembered.ensures {u = tt}) in
    subst (λ (w : CoordinatorValue). ProcessRestarts (state w) c.args.keep
    (state (rebuilt_as v c.restart.new.self
    c.in_ok-rebuilt.rebuilt)) c.in_ok-rebuilt.rebuilt.reaction) c.self.view_is
    (restarts v c.args.keep ls c.in_ok-rebuilt.rebuilt c.restart.new.self refl rebuilds
    c.self.invariant.0.form
    restarted)

pub returns-in_err-rebuilt-clause-err : goal.returns-in_err-rebuilt-clause-err
returns-in_err-rebuilt-clause-err g c =
    let v : CoordinatorValue = record {
      me = c.self.inside.me;
      parent = c.self.inside.parent;
      tree = c.self.inside.tree;
      log = c.self.inside.log;
      boot = c.self.inside.boot;
      begun = c.self.inside.begun;
      given = c.self.inside.given;
      slots = c.self.inside.cases;
    } in
    subst (λ (w : CoordinatorValue). IfErr c.from_residual-in_err-rebuilt.result
    (ProcessNotRestarted (state w) c.args.keep (state v))) c.self.view_is
    (made_error (ProcessNotRestarted (state v) c.args.keep (state v)) c.in_err-rebuilt.field-0.0
    c.from_residual-in_err-rebuilt.result c.from_residual-in_err-rebuilt.ensures.1
    (not_rebuilt v c.args.keep (left_by v.log.sight c.args.keep) c.in_err-rebuilt.field-0.0 refl
    (c.in_err-rebuilt.ensures.err v.tree (left_by v.log.sight c.args.keep)
    (c.in_ok-remembered.ensures {u = tt}))))

pub returns-in-Err-clause-err : goal.returns-in-Err-clause-err
returns-in-Err-clause-err g c =
    let v : CoordinatorValue = record {
      me = c.self.inside.me;
      parent = c.self.inside.parent;
      tree = c.self.inside.tree;
      log = c.self.inside.log;
      boot = c.self.inside.boot;
      begun = c.self.inside.begun;
      given = c.self.inside.given;
      slots = c.self.inside.cases;
    } in
    let ls : List LogRecord = left_by v.log.sight c.args.keep in
    let rebuilds : RebuildsCases (place_of v) ls c.in_ok-rebuilt.rebuilt =
    c.in_ok-rebuilt.ensures.ok v.tree ls (c.in_ok-remembered.ensures {u = tt}) in
    let broke : LogNotRestarted c.self.inside.log c.restart.new.self c.args.keep
    (map frame_record c.in_ok-rebuilt.rebuilt.frames.items) c.in-Err.error =
    subst (λ frames. LogNotRestarted c.self.inside.log c.restart.new.self c.args.keep
    (map frame_record frames)
    c.in-Err.error) c.deref.ensures.value c.in-Err.ensures.err in
    subst (ProcessNotRestarted (state c.args.self.now) c.args.keep
    (state (record v { log = c.restart.new.self })))
    (sym c.step_error.ensures)
    (subst (λ (w : CoordinatorValue). ProcessNotRestarted (state w) c.args.keep
    (state (record v { log = c.restart.new.self })) (error_of c.in-Err.error)) c.self.view_is
    (not_restarted v c.args.keep ls c.in_ok-rebuilt.rebuilt c.restart.new.self refl rebuilds
    c.self.invariant.0.form
    c.in-Err.error broke))
