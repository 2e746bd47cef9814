use Rattle.std.proofs.Common.{◌≤◌, ◌∙◌, ap, sym, subst}
use Rattle.log_text.specs.Made.{frame_record}
use Rattle.log_records.specs.Sights.{IsRecord, LogSight}
use Rattle.kv_manager.specs.declared.restart.RecordsError.TheVariants.{Memory}
use Rattle.kv_manager.specs.Restarts.{NotBegun, opened}
use Rattle.kv_manager.proofs.Keeping.{made_error}
use Rattle.kv_manager.proofs.Restoring.{breaks_behind, writes_behind}
use Rattle.kv_manager.proofs.restart.write_boot.Goals as goal

pub returns-in_err-reserve-clause-err : goal.returns-in_err-reserve-clause-err
returns-in_err-reserve-clause-err g c =
    made_error (NotBegun c.args.log.now c.reserve.new.self c.args.boot) Memory
    c.from_residual-in_err-reserve.result
    c.from_residual-in_err-reserve.ensures.1 c.reserve.ensures.stays

pub write-requires-clause-room : goal.write-requires-clause-room
write-requires-clause-room g c = subst (λ n. n ≤ c.reserve.new.self.room) c.size.ensures
    c.in_ok-reserve.ensures.room

pub write-requires-clause-sound : goal.write-requires-clause-sound
write-requires-clause-sound g c =
    subst (λ k. IsRecord k (frame_record c.in_ok-opened.opened))
    (sym (ap (λ (s : LogSight). s.form.kind) c.reserve.ensures.stays ∙ c.requires.kind))
    c.in_ok-opened.ensures.sound

pub returns-in-Ok-clause-ok : goal.returns-in-Ok-clause-ok
returns-in-Ok-clause-ok g c =
    writes_behind c.args.log.now c.reserve.new.self c.write.new.log
    (frame_record c.in_ok-opened.opened) (opened c.args.boot)
    c.reserve.ensures.stays c.in_ok-opened.ensures.spells c.in-Ok.ensures.ok

pub returns-clause-err : goal.returns-clause-err
returns-clause-err g c =
    breaks_behind c.args.log.now c.reserve.new.self c.write.new.log
    (frame_record c.in_ok-opened.opened) (opened c.args.boot)
    c.reserve.ensures.stays c.in_ok-opened.ensures.spells c.in-Err.ensures.err.1
