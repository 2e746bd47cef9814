use Rattle.process_state.proofs.Lefts.{left_alike}
use Rattle.process_state.proofs.law.left_logs_restart_alike.Goals as goal

pub returns : goal.returns
returns c = left_alike
