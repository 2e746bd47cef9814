use Rattle.std.proofs.Common.{below_more}
use Rattle.judge_script.proofs.Nothing.{of_none}
use Rattle.judge_script.proofs.reading.parts_of.Goals as goal

pub loop-place-preserved : goal.loop-place-preserved
loop-place-preserved c = below_more _ _ c.loop-place.invariant
    (of_none c.in_ok-parts.field-0 _ c.in_default.is c.in_ok-parts.ensures.none)
