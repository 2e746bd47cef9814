use Rattle.proof_log_order.proofs.Reopens.{can_restart}
use Rattle.proof_log_order.proofs.law.coordinators_can_restart.Goals as goal

pub returns : goal.returns
returns c = λ tree es w run q i sound k next. can_restart tree es w run q i sound k next
