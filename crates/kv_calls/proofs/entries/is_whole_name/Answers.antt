use Rattle.log_rules.proofs.sound.OwnNames.{names_are_sound}
use Rattle.kv_calls.proofs.entries.is_whole_name.Goals as goal

pub returns : goal.returns
returns c = names_are_sound c.args.xid.now c.parts-parts.ensures.sound
