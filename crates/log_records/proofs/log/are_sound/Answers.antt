use Rattle.std.specs.Int.{w8}
use Rattle.std.proofs.Math.Facts.{Fits-lt-pow}
use Rattle.log_records.proofs.SoundRecords.{sound_in}
use Rattle.log_records.proofs.log.are_sound.Goals as goal

pub returns : goal.returns
returns c = sound_in c.args.form 0 c.args.bytes.now (λ k. Fits-lt-pow {w = w8} (c.type_inv.bytes k))
