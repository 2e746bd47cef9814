use Rattle.std.proofs.Common.{arith, rules}
use Rattle.tree_script.proofs.Reading.{reads_all, reads_event, reads_fault, reads_nothing}
use Rattle.tree_script.proofs.lines.Lines.events.Goals as goal

pub returns-in-Err-clause-err : goal.returns-in-Err-clause-err
returns-in-Err-clause-err c =
    reads_fault c.args.self.now c.loop-place.place c.in-Err.error c.loop-place.events.items (omega arith)
    c.in-Err.ensures c.loop-place.invariant

pub loop-place-preserved-in-Ok-None : goal.loop-place-preserved-in-Ok-None
loop-place-preserved-in-Ok-None c =
    reads_nothing c.args.self.now c.loop-place.place _ c.loop-place.events.items (omega arith)
    c.in-Ok-None.ensures (search rules) c.loop-place.invariant

pub loop-place-preserved : goal.loop-place-preserved
loop-place-preserved c =
    rw c.in_ok-push-in-Ok-Some.ensures.items
    (reads_event c.args.self.now c.loop-place.place _ c.in-Ok-Some.event
    c.loop-place.events.items (omega arith)
    c.in-Ok-Some.ensures (search rules) c.loop-place.invariant)

pub returns-clause-ok : goal.returns-clause-ok
returns-clause-ok c =
    reads_all c.args.self.now c.loop-place.place c.loop-place.events.items
    (omega (arith, c.loop-place-test.false))
    c.loop-place.invariant
