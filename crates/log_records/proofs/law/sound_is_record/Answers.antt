use Rattle.log_records.proofs.SoundRecords.{sound_is_record}
use Rattle.log_records.proofs.law.sound_is_record.Goals as goal

pub returns : goal.returns
returns c = sound_is_record
