use Rattle.std.proofs.Common.{arith}
use Rattle.std.proofs.lemmas.Grind.{common_steps}
use Rattle.audit_engine.proofs.lines.push_all_explained.Goals as goal

pub loop-line-preserved : goal.loop-line-preserved
loop-line-preserved c = λ logs are.
    let pushed = c.in_ok-push_explained.ensures logs are in
    let before = c.loop-line.invariant logs are in
    grind (arith, common_steps)
