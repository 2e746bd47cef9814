use Rattle.std.proofs.Common.{rules}
use Rattle.protocol.specs.declared.names.Kind.TheVariants.{Manager}
use Rattle.log_text.specs.Made.{frame_record}
use Rattle.log_rules.specs.sound.Sound.{IsSound}
use Rattle.log_records.proofs.SoundRecords.{sound_is_record}
use Rattle.log_records.specs.Sights.{IsRecord}
use Rattle.kv_manager.proofs.manager.KvManager.frame.Goals as goal

pub returns-clause-sound : goal.returns-clause-sound
returns-clause-sound g c =
    let sound : IsSound Manager (frame_record c.in_ok-frame.frame) = search rules in
    let is : IsRecord Manager (frame_record c.in_ok-frame.frame) =
    sound_is_record Manager _ sound in
    search rules
