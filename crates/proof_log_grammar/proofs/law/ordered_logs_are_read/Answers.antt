use Rattle.proof_log_grammar.proofs.Ordered.{ordered_log_is_read}
use Rattle.proof_log_grammar.proofs.law.ordered_logs_are_read.Goals as goal

pub returns : goal.returns
returns c = ordered_log_is_read
