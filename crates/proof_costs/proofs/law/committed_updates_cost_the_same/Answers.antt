use Rattle.proof_costs.proofs.Costs.{costs_by}
use Rattle.proof_costs.proofs.law.committed_updates_cost_the_same.Goals as goal

pub returns : goal.returns
returns c = λ ver s. costs_by ver s
