use Rattle.std.proofs.Common.{inl}
use Rattle.std.proofs.lemmas.Result.{IfOk-weaker}
use Rattle.crash_engine.proofs.Failing.{answered, handed_on}
use Rattle.crash_engine.proofs.trial.try_point.Goals as goal

pub crash-found-requires : goal.crash-found-requires
crash-found-requires c = (c.args.origin.now, c.in_ok-run.ensures.begins)

pub returns-clause-tries : goal.returns-clause-tries
returns-clause-tries c = IfOk-weaker c.crash-found.result _ _
    (λ f h. h c.args.origin.now c.in_ok-run.ensures.begins) c.crash-found.ensures.tries

pub returns-clause-err : goal.returns-clause-err
returns-clause-err c =
    answered _ _ c.crash-found.result c.crash-found.ensures.err
    (λ why breaks. breaks c.args.origin.now c.in_ok-run.ensures.begins)

pub returns-in_err-run-clause-err : goal.returns-in_err-run-clause-err
returns-in_err-run-clause-err c =
    handed_on _ c.from_residual.result c.in_err-run.field-0.0 c.from_residual.ensures.1
    c.in_err-run.ensures.err
    (λ not. inl (inl not))
