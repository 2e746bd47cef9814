use Rattle.std.proofs.Common.{◌≡◌, ◌⊎◌}
use Rattle.report_io.specs.declared.streams.Failure.TheVariants.{Memory}
use Rattle.tree_world.proofs.Handling.{passed_on}
use Rattle.tree_engine.specs.Failures.{ScriptBreaksOff}
use Rattle.tree_engine.proofs.TreeReports.{first_there, lines_break, plays_script}
use Rattle.tree_engine.proofs.tree.play.Goals as goal

pub returns-in-Err-2-clause-fault : goal.returns-in-Err-2-clause-fault
returns-in-Err-2-clause-fault c =
    first_there c.args.input.now _ _ _ c.in-Err-2.process c.in-Err-2.place
    c.in_ok-first_fault-in-Err-2.field-0
    c.in-Ok.ensures.ok (rw c.in-Err-2.is at c.in_ok-run.ensures.damage)
    c.in_ok-first_fault-in-Err-2.ensures.fault

pub returns-in_err-run-2-clause-err : goal.returns-in_err-run-2-clause-err
returns-in_err-run-2-clause-err c =
    let why = c.in_err-run-2.field-0.0 in
    passed_on c.from_residual-in_err-run-2.result why
    (λ why. (why ≡ Memory) ⊎ ScriptBreaksOff c.args.input.now why) c.from_residual-in_err-run-2.ensures.1
    (lines_break c.args.input.now _ _ _ c.in-Ok-2.run' why c.in-Ok.ensures.ok
    (rw c.in-Ok-2.is at c.in_ok-run.ensures.begins) c.in_err-run-2.ensures.err)

pub returns-in-Ok-3-clause-run : goal.returns-in-Ok-3-clause-run
returns-in-Ok-3-clause-run c =
    plays_script c.args.input.now _ _ _ c.in-Ok-2.run' c.in-Ok-3.run' c.in-Ok.ensures.ok
    (rw c.in-Ok-2.is at c.in_ok-run.ensures.begins) (rw c.in-Ok-3.is at c.in_ok-run-2.ensures.run)
