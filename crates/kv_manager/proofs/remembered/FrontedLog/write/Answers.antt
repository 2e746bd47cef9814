use Rattle.std.proofs.Common.{subst, sym}
use Rattle.log_text.specs.Made.{frame_record}
use Rattle.log_records.specs.Sights.{IsRecord, LogState}
use Rattle.kv_manager.proofs.Remembering.{front_written}
use Rattle.kv_manager.proofs.remembered.FrontedLog.write.Goals as goal

pub write-requires-clause-sound : goal.write-requires-clause-sound
write-requires-clause-sound g c =
    subst (λ (l : LogState). IsRecord l.sight.form.kind (frame_record c.args.frame.now)) (sym c.self.view_is)
    c.requires.sound

pub invariant_of-self : goal.invariant_of-self
invariant_of-self g c = front_written c.self.inside.log c.write.new.log
    (frame_record c.args.frame.now) c.args.forced
    c.self.inside.front c.write.result c.write.ensures.ok c.write.ensures.err c.self.invariant
