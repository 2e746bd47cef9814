use Rattle.std.proofs.Common.{◌∙◌, ap, subst, sym}
use Rattle.log_text.specs.Made.{frame_record}
use Rattle.log_records.specs.Sights.{IsRecord, LogSight}
use Rattle.log_writing.proofs.Fitting.{room_for}
use Rattle.coord_cases.proofs.Framed.{made_error}
use Rattle.coord_process.specs.States.{CoordinatorNotOpened}
use Rattle.coord_process.proofs.Opened.{first_unframed}
use Rattle.coord_process.proofs.opening.write_opened.Goals as goal

pub write-requires-clause-room : goal.write-requires-clause-room
write-requires-clause-room g c = room_for c.make_room.new.log (frame_record c.in_ok-frame.frame)
    c.in_ok-make_room.ensures.room c.in_ok-frame.ensures.sound

pub write-requires-clause-sound : goal.write-requires-clause-sound
write-requires-clause-sound g c =
    subst (λ k. IsRecord k (frame_record c.in_ok-frame.frame))
    (sym (ap (λ (s : LogSight). s.form.kind) c.make_room.ensures.stays ∙ c.requires.kind))
    c.in_ok-frame.ensures.sound

pub returns-in_err-frame-clause-err : goal.returns-in_err-frame-clause-err
returns-in_err-frame-clause-err g c =
    made_error (CoordinatorNotOpened c.args.log.now c.make_room.new.log) c.in_err-frame.field-0.0
    c.from_residual-in_err-frame.result c.from_residual-in_err-frame.ensures.1
    (first_unframed c.args.log.now c.make_room.new.log c.in_err-frame.field-0.0 c.make_room.ensures.stays
    c.in_err-frame.ensures.err)
