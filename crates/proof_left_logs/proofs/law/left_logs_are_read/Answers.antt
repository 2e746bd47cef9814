use Rattle.proof_left_logs.proofs.Entries.{none_failed}
use Rattle.proof_left_logs.proofs.Undamaged.{none_damaged}
use Rattle.proof_left_logs.proofs.law.left_logs_are_read.Goals as goal

pub returns : goal.returns
returns c = λ tree events start end es w logs t opens leads follows left stand.
    none_damaged end t es w follows (none_failed tree start end events es opens leads follows.shown) logs left
    stand
