use Rattle.proof_model.proofs.CostLaws.{committed_update_costs}
use Rattle.proof_worked.proofs.definitions.committed_update_costs.Goals as goal

pub returns : goal.returns
returns c = λ s. committed_update_costs s
