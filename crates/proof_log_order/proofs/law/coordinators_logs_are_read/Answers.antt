use Rattle.proof_log_order.proofs.LogsRead.{reads_so}
use Rattle.proof_log_order.proofs.law.coordinators_logs_are_read.Goals as goal

pub returns : goal.returns
returns c = λ tree es w is_tree run q listed i sound. reads_so tree es w is_tree run q listed i sound
