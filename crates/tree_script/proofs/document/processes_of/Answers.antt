use Rattle.tree_script.proofs.Entries.{are_more, none_at}
use Rattle.tree_script.proofs.document.processes_of.Goals as goal

pub returns-in-Err-clause-none : goal.returns-in-Err-clause-none
returns-in-Err-clause-none c = λ is. none_at _ _ _ c.loop-value-test.true c.value-item.is
    (c.in-Err.ensures.none is)

pub loop-value-preserved : goal.loop-value-preserved
loop-value-preserved c = are_more _ _ _ _ _ _ c.loop-value-test.true c.value-item.is
    c.in_ok-push-in-Ok.ensures.items c.loop-value.invariant c.in-Ok.ensures.found
