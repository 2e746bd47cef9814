use Rattle.std.proofs.Common.{◌≡◌, ◌<◌, is_some, length, true, false, rules, arith}
use Rattle.crash_engine.specs.Trials.{known_by}
use Rattle.crash_engine.proofs.Reports.{one_event_more, one_refused}
use Rattle.crash_engine.proofs.Failing.{on_breaks, handed_on}
use Rattle.crash_engine.proofs.engine.try_events.Goals as goal

pub returns-then-is_some-clause-goes : goal.returns-then-is_some-clause-goes
returns-then-is_some-clause-goes g c =
    let is : is_some c.in_ok-refusal.refusal ≡ true = search rules in
    let within : c.loop-made.made < length c.args.events.now = omega arith in
    one_refused c.args.origin.now (known_by c.args.known.now) c.args.events.now c.loop-made.made
    c.in_ok-refusal.refusal c.loop-made.trials.items
    c.try_event.new.trials.items is within c.in_ok-refusal.ensures.goes c.loop-made.invariant

pub loop-made-preserved : goal.loop-made-preserved
loop-made-preserved g c =
    let is : is_some c.in_ok-refusal.refusal ≡ false = search rules in
    one_event_more c.args.origin.now (known_by c.args.known.now) c.args.events.now c.loop-made.made
    c.in_ok-refusal.refusal c.loop-made.trials.items
    c.try_event.new.trials.items is c.in_ok-refusal.ensures.goes c.loop-made.invariant

pub returns-in_err-refusal-clause-err : goal.returns-in_err-refusal-clause-err
returns-in_err-refusal-clause-err g c =
    let within : c.loop-made.made < length c.args.events.now = omega arith in
    let why = c.in_err-refusal.field-0.0 in
    handed_on _ c.from_residual-in_err-refusal.result why c.from_residual-in_err-refusal.ensures.1
    c.in_err-refusal.ensures.err
    (λ cannot. on_breaks c.args.origin.now c.args.events.now c.loop-made.made why within cannot)
