use Rattle.std.proofs.Common.{subst, sym}
use Rattle.protocol.specs.declared.names.Kind.TheVariants.{Coordinator}
use Rattle.log_rules.proofs.sound.Sizes.{sound_fits}
use Rattle.log_records.specs.Sights.{IsRecord}
use Rattle.log_records.proofs.SoundRecords.{sound_is_record}
use Rattle.log_writing.proofs.frames.coordinator_frame.Goals as goal

pub of-requires : goal.of-requires
of-requires c = sound_fits Coordinator _ (c.is_writable.ensures.yes c.if-not-is_writable.false)

pub returns-clause-sound : goal.returns-clause-sound
returns-clause-sound c = subst (IsRecord Coordinator) (sym c.in_ok-of.ensures)
    (sound_is_record Coordinator _ (c.is_writable.ensures.yes c.if-not-is_writable.false))
