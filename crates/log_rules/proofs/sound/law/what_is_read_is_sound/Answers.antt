use Rattle.log_rules.proofs.sound.ReadSound.{read_is_sound}
use Rattle.log_rules.proofs.sound.law.what_is_read_is_sound.Goals as goal

pub returns : goal.returns
returns c = read_is_sound
