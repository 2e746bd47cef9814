use Rattle.std.proofs.Common.{◌≡◌, ◌∙◌, ◌+◌, ◌<◌, ◌++◌, suc, ap, arith, length, subst, sym, take}
use Rattle.crash_engine.specs.Failures.{CannotTryAll}
use Rattle.crash_engine.specs.Trials.{GoesDown, known_by, within_event}
use Rattle.crash_engine.proofs.Failing.{handed_on}
use Rattle.crash_engine.proofs.Going.{one_delivery_more}
use Rattle.crash_engine.proofs.trials.try_within.Goals as goal

pub returns-in_err-try_after-clause-err : goal.returns-in_err-try_after-clause-err
returns-in_err-try_after-clause-err c =
    let made = c.loop-made.made in
    let why = c.in_err-try_after.field-0.0 in
    let within : made < length c.args.deliveries.now = omega arith in
    let more : made + 1 ≡ suc made = omega arith in
    let front : c.deref.result.now ≡ c.args.events.now ++ take (suc made) c.args.deliveries.now =
    c.deref.ensures.value ∙ c.in_ok-front.ensures
    ∙ ap (λ k. c.args.events.now ++ take k c.args.deliveries.now) more in
    handed_on _ c.from_residual-in_err-try_after.result why c.from_residual-in_err-try_after.ensures.1
    c.in_err-try_after.ensures.err
    (λ cannot. record {
      before = made;
      within = within;
      cannot = subst (λ es. CannotTryAll c.args.origin.now es why) front cannot;
    })

pub loop-made-preserved : goal.loop-made-preserved
loop-made-preserved c =
    let made = c.loop-made.made in
    let more : made + 1 ≡ suc made = omega arith in
    let front : c.deref.result.now ≡ c.args.events.now ++ take (suc made) c.args.deliveries.now =
    c.deref.ensures.value ∙ c.in_ok-front.ensures
    ∙ ap (λ k. c.args.events.now ++ take k c.args.deliveries.now) more in
    let adds = c.in_ok-try_after.ensures.adds in
    subst (λ k. GoesDown c.args.origin.now (known_by c.args.known.now) c.args.number c.args.events.now
    c.args.deliveries.now k
    c.args.trials.now.items c.try_after.new.trials.items) (sym more)
    (one_delivery_more c.args.origin.now (known_by c.args.known.now) c.args.number c.args.events.now
    c.args.deliveries.now made
    _ c.deref.result.now adds.0 c.args.trials.now.items c.loop-made.trials.items c.try_after.new.trials.items
    (ap (within_event c.args.number) more) front adds.1 c.loop-made.invariant)
