use Rattle.std.proofs.Common.{◌∙◌, ap, subst, sym}
use Rattle.log_text.specs.Made.{frame_record}
use Rattle.log_records.specs.Sights.{IsRecord, LogSight}
use Rattle.test_base.proofs.trims.append.Goals as goal

pub append-requires-clause-sound : goal.append-requires-clause-sound
append-requires-clause-sound c =
    subst (λ k. IsRecord k (frame_record c.in_ok-frame.frame))
    (sym (ap (λ (s : LogSight). s.form.kind) c.reserve.ensures.stays ∙ c.requires))
    c.in_ok-frame.ensures.sound
