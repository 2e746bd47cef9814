use Rattle.log_rules.proofs.sound.OwnNames.{names_are_sound}
use Rattle.log_rules.proofs.sound.law.names_are_sound.Goals as goal

pub returns : goal.returns
returns c = names_are_sound
