use Rattle.proof_log_grammar.proofs.Ordered.{ordered_is_read}
use Rattle.proof_log_grammar.proofs.law.ordered_records_are_read.Goals as goal

pub returns : goal.returns
returns c = ordered_is_read
