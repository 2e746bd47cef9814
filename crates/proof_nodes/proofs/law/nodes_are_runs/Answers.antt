use Rattle.proof_nodes.proofs.Steps.{nodes_so, steps_so}
use Rattle.proof_nodes.proofs.law.nodes_are_runs.Goals as goal

pub returns-clause-step : goal.returns-clause-step
returns-clause-step c = steps_so

pub returns-clause-nodes : goal.returns-clause-nodes
returns-clause-nodes c = nodes_so
