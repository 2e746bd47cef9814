use Rattle.proof_costs.proofs.ManagerCosts.{manager_pays}
use Rattle.proof_costs.proofs.RootCosts.{root_pays}
use Rattle.proof_costs.proofs.law.runs_cost_the_same.Goals as goal

pub returns-clause-root : goal.returns-clause-root
returns-clause-root c = root_pays

pub returns-clause-manager : goal.returns-clause-manager
returns-clause-manager c = manager_pays
