use Rattle.std.proofs.Common.{subst, sym}
use Rattle.reopen_script.specs.Inputs.{IsReopenScript}
use Rattle.crash_engine.proofs.Failing.{answered, script_breaks}
use Rattle.crash_engine.proofs.engine.answer.Goals as goal

pub returns-clause-err : goal.returns-clause-err
returns-clause-err g c =
    let (tree, logs, events) = c.in-Ok.script in
    answered _ _ c.crashes.result c.crashes.ensures.err
    (λ why cannot. script_breaks c.args.input.now tree logs c.deref.result.now why
    (subst (IsReopenScript c.args.input.now tree logs) (sym c.deref.ensures.value) c.in-Ok.ensures.ok) cannot)
