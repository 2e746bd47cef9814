use Rattle.proof_worked.proofs.CostLaws.{met}
use Rattle.proof_worked.proofs.law.costs_are_met.Goals as goal

pub returns : goal.returns
returns c = met
