use Rattle.std.proofs.Common.{ap, Some}
use Rattle.node_engine.specs.Answers.{state_of}
use Rattle.linked_node.proofs.Ends.{if_ended}
use Rattle.linked_node.proofs.kept.ended.Goals as goal

pub returns-in-Ok : goal.returns-in-Ok
returns-in-Ok c =
    if_ended c.closed.result (state_of c.args.node) (Some c.as_bytes.result.now) _ _ _ _ c.in-Ok.store
    (ap Some c.as_bytes.ensures.value) c.closed.ensures.ok c.in-Ok.ensures.written
