use Rattle.std.proofs.Common.{ap, Some}
use Rattle.node_engine.specs.Answers.{state_of}
use Rattle.desk_engine.proofs.Ends.{all_closed}
use Rattle.desk_engine.proofs.ended.closed.Goals as goal

pub returns-clause-closes : goal.returns-clause-closes
returns-clause-closes g c =
    all_closed g.L.LogStore.bytes g.L.LogStore.forced g.L.LogStore.failures c.run_node.result
    (state_of c.args.serving)
    (Some c.as_bytes.result.now) _ c.nothing-opening.result _ _ (ap Some c.as_bytes.ensures.value)
    c.run_node.ensures.written
