use Rattle.std.proofs.Common.{rules, subst, sym}
use Rattle.log_text.specs.Made.{frame_record}
use Rattle.log_records.specs.Sights.{IsRecord}
use Rattle.log_writing.proofs.Fitting.{room_for}
use Rattle.coord_effects.specs.Rows.{IsFramed}
use Rattle.coord_process.proofs.writing.write_down.Goals as goal

pub write-requires-clause-room : goal.write-requires-clause-room
write-requires-clause-room g c =
    let framed : IsFramed c.args.parent c.in-Some.written = search rules in
    room_for c.args.log.now (frame_record c.in-Some.written.frame) c.requires.room framed.sound

pub write-requires-clause-sound : goal.write-requires-clause-sound
write-requires-clause-sound g c =
    let framed : IsFramed c.args.parent c.in-Some.written = search rules in
    subst (λ k. IsRecord k (frame_record c.in-Some.written.frame)) (sym c.requires.kind) framed.sound
