use Rattle.log_rules.proofs.sound.Names.{names_read_back}
use Rattle.log_rules.proofs.sound.law.names_read_back.Goals as goal

pub returns : goal.returns
returns c = names_read_back
