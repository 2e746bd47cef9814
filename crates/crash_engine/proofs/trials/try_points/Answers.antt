use Rattle.std.proofs.Common.{◌<◌, length, refl, arith, sym}
use Rattle.std.proofs.lemmas.List.{get_or_default}
use Rattle.crash_engine.specs.Trials.{known_by, trial_of}
use Rattle.crash_engine.proofs.Trying.{all_points, none_tried, tried_more}
use Rattle.crash_engine.proofs.Failing.{handed_on, point_breaks}
use Rattle.crash_engine.proofs.trials.try_points.Goals as goal

pub loop-point-init : goal.loop-point-init
loop-point-init c = none_tried c.args.origin.now (known_by c.args.known.now) c.args.place c.args.events.now
    c.args.trials.now.items

pub loop-point-preserved : goal.loop-point-preserved
loop-point-preserved c =
    let i = c.loop-point.point-index in
    let within : i < length c.args.points.now = omega arith in
    tried_more c.args.origin.now (known_by c.args.known.now) c.args.place c.args.events.now
    c.args.points.now i _
    (trial_of c.args.place _ c.in_ok-found.found)
    c.args.trials.now.items c.loop-point.trials.items
    c.push_trial.new.trials.items within (get_or_default c.args.points.now i _ _ within)
    c.in_ok-push_trial.ensures refl refl
    c.in_ok-found.ensures.tries c.loop-point.invariant

pub returns-clause-tried : goal.returns-clause-tried
returns-clause-tried c =
    all_points c.args.origin.now (known_by c.args.known.now) c.args.place c.args.events.now c.args.points.now
    c.loop-point.point-index c.args.trials.now.items
    c.loop-point.trials.items (omega arith) c.loop-point.invariant

pub returns-in_err-found-clause-err : goal.returns-in_err-found-clause-err
returns-in_err-found-clause-err c =
    let i = c.loop-point.point-index in
    let why = c.in_err-found.field-0.0 in
    let within : i < length c.args.points.now = omega arith in
    handed_on _ c.from_residual.result why c.from_residual.ensures.1 c.in_err-found.ensures.err
    (λ breaks. point_breaks c.args.origin.now c.args.events.now c.args.points.now _ why
    (i, within, sym (get_or_default c.args.points.now i _ _ within)) breaks)
