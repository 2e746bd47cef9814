use Rattle.std.proofs.Common.{refl, sym}
use Rattle.log_records.proofs.Frames.{no_frame}
use Rattle.log_records.proofs.Trims.{begins_with}
use Rattle.log_records.proofs.trimming.frame_at.Goals as goal

pub returns-in-Some-clause-some : goal.returns-in-Some-clause-some
returns-in-Some-clause-some c = begins_with _ _ _ _ _ _ c.requires (sym c.in-Some.ensures) refl
    c.split_at.ensures.front c.in_frame.ensures

pub returns-in-None-clause-none : goal.returns-in-None-clause-none
returns-in-None-clause-none c = no_frame _ _ (sym c.in-None.ensures)
