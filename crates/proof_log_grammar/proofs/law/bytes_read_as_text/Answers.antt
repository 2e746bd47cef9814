use Rattle.proof_log_grammar.proofs.Framed.{bytes_read_as_text}
use Rattle.proof_log_grammar.proofs.law.bytes_read_as_text.Goals as goal

pub returns : goal.returns
returns c = bytes_read_as_text
