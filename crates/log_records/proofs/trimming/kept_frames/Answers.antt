use Rattle.std.proofs.Common.{arith}
use Rattle.log_records.proofs.Trims.{counts_all, keeps_all, keeps_none, keeps_on, one_more}
use Rattle.log_records.proofs.trimming.kept_frames.Goals as goal

pub loop-frame-init : goal.loop-frame-init
loop-frame-init c = (omega arith, omega arith, keeps_none _ _ _ _ c.requires c.new-frames.ensures.items)

pub loop-frame-preserved : goal.loop-frame-preserved
loop-frame-preserved c =
    let b = c.in-Some.ensures.some in (
      omega (arith, c.loop-frame.invariant.0, b.shorter),
      one_more _ _ _ _ c.loop-frame.invariant.1 c.one_if-count.ensures,
      keeps_on _ _ _ _ _ _ _ _ _ _ _ _ _ c.keeps-keeps.result c.loop-frame.invariant.2 b (omega arith)
          c.keeps-keeps.ensures c.in_ok-keep_frame.ensures (omega (arith, c.one_if-count.ensures)),
    )

pub returns-clause-held : goal.returns-clause-held
returns-clause-held c = keeps_all _ _ _ _ _ _ _ c.loop-frame.invariant.2 c.in_default.ensures.none

pub returns-clause-count : goal.returns-clause-count
returns-clause-count c = counts_all _ _ _ _ _ _ _ c.loop-frame.invariant.2 c.in_default.ensures.none
