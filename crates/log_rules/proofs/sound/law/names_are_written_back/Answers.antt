use Rattle.log_text.proofs.NameReading.{name_again}
use Rattle.log_rules.proofs.sound.law.names_are_written_back.Goals as goal

pub returns : goal.returns
returns c = name_again
