use Rattle.log_rules.proofs.sound.CutRecords.{read_is_written}
use Rattle.log_rules.proofs.sound.law.what_is_read_was_written.Goals as goal

pub returns : goal.returns
returns c = read_is_written
