use Rattle.std.proofs.Common.{◌≡◌, refl, sym, subst}
use Rattle.protocol.specs.declared.names.Kind.TheVariants.{Manager}
use Rattle.log_text.specs.Made.{frame_record}
use Rattle.log_records.proofs.SoundRecords.{sound_is_record}
use Rattle.log_records.specs.Sights.{IsRecord}
use Rattle.kv_manager.specs.Restarts.{opened}
use Rattle.kv_manager.proofs.Keeping.{map_ok}
use Rattle.kv_manager.proofs.restart.opened.Goals as goal

pub returns-clause-sound : goal.returns-clause-sound
returns-clause-sound c =
    map_ok (λ frame. frame_record frame ≡ opened c.args.boot)
    (λ frame. IsRecord Manager (frame_record frame)) c.new.result c.new.ensures
    (λ frame is. subst (IsRecord Manager) (sym is)
    (sound_is_record Manager (opened c.args.boot) (refl, c.requires)))
