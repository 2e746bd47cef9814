use Rattle.log_rules.proofs.sound.Records.{records_read_back}
use Rattle.log_rules.proofs.sound.law.records_read_back.Goals as goal

pub returns : goal.returns
returns c = records_read_back
