use Rattle.std.proofs.Common.{◌∙◌, ap, inl, inr}
use Rattle.crash_engine.specs.Trials.{known_by}
use Rattle.crash_engine.specs.Texts.{crashes_text, ending_by}
use Rattle.crash_engine.proofs.Reports.{tried_from}
use Rattle.crash_engine.proofs.Failing.{handed_on}
use Rattle.crash_engine.proofs.engine.crashes.Goals as goal

pub returns-clause-tries : goal.returns-clause-tries
returns-clause-tries g c =
    let alone = c.in_ok-alone.alone in
    tried_from c.args.origin.now c.ending_of.result c.in_ok-text.text.items c.args.events.now alone
    (known_by c.in_ok-known.known) c.in_ok-trials.trials.items c.in_ok-trials.refusal
    c.in_ok-alone.ensures.ends
    c.in_ok-known.ensures c.in_ok-trials.ensures.goes
    (c.ending_of.ensures ∙ ap (λ ts. ending_by alone ts c.in_ok-trials.refusal) c.deref-2.ensures.value)
    (c.in_ok-text.ensures ∙ ap (λ ts. crashes_text alone ts c.in_ok-trials.refusal) c.deref.ensures.value)

pub returns-in_err-alone-clause-err : goal.returns-in_err-alone-clause-err
returns-in_err-alone-clause-err g c =
    handed_on _ c.from_residual.result c.in_err-alone.field-0.0 c.from_residual.ensures.1
    c.in_err-alone.ensures.err
    (λ cannot. inl cannot)

pub returns-in_err-trials-clause-err : goal.returns-in_err-trials-clause-err
returns-in_err-trials-clause-err g c =
    handed_on _ c.from_residual-in_err-trials.result c.in_err-trials.field-0.0
    c.from_residual-in_err-trials.ensures.1 c.in_err-trials.ensures.err (λ cannot. inr cannot)
