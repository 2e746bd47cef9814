use Rattle.proof_processes.proofs.CoordinatorLogs.{cases_in_order}
use Rattle.proof_processes.proofs.law.cases_stand_in_order.Goals as goal

pub returns : goal.returns
returns c = cases_in_order
