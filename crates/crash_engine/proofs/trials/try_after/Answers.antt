use Rattle.std.proofs.Common.{inl}
use Rattle.crash_engine.proofs.Failing.{handed_on}
use Rattle.crash_engine.proofs.trials.try_after.Goals as goal

pub returns-in_err-run-clause-err : goal.returns-in_err-run-clause-err
returns-in_err-run-clause-err c =
    handed_on _ c.from_residual.result c.in_err-run.field-0.0 c.from_residual.ensures.1
    c.in_err-run.ensures.err
    (λ not. inl (inl not))
