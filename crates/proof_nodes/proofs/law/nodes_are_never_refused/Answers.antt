use Rattle.proof_nodes.proofs.Refusals.{new_files_are_taken_up, nodes_are_never_refused, own_files_are_taken_up}
use Rattle.proof_nodes.proofs.law.nodes_are_never_refused.Goals as goal

pub returns-clause-nodes : goal.returns-clause-nodes
returns-clause-nodes g c = nodes_are_never_refused g.L.LogStore.bytes g.L.LogStore.forced
    g.L.LogStore.failures

pub returns-clause-states : goal.returns-clause-states
returns-clause-states g c = own_files_are_taken_up g.L.LogStore.bytes g.L.LogStore.forced
    g.L.LogStore.failures

pub returns-clause-new : goal.returns-clause-new
returns-clause-new g c = new_files_are_taken_up g.L.LogStore.bytes g.L.LogStore.forced g.L.LogStore.failures
