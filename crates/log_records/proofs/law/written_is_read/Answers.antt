use Rattle.log_records.proofs.Written.{whole_text, written}
use Rattle.log_records.proofs.law.written_is_read.Goals as goal

pub returns : goal.returns
returns c = λ p ls are. (written p ls are, whole_text p ls are)
