use Rattle.std.proofs.Common.{arith, refl}
use Rattle.log_records.proofs.Trims.{lives_all, marks_none, marks_on, opened_all}
use Rattle.log_records.proofs.trimming.read_marks.Goals as goal

pub loop-frame-init : goal.loop-frame-init
loop-frame-init c = (omega arith, marks_none _ _ _ _ c.requires refl c.new-lives.ensures)

pub loop-frame-preserved : goal.loop-frame-preserved
loop-frame-preserved c =
    let b = c.in-Some.ensures.some in (
      omega (arith, c.loop-frame.invariant.0, b.shorter),
      marks_on _ _ _ _ _ _ _ _ _ _ _ _ c.loop-frame.invariant.1 b (omega arith) c.last_opened-opened.ensures
          c.in_ok-note.ensures,
    )

pub returns-clause-opened : goal.returns-clause-opened
returns-clause-opened c = opened_all _ _ _ _ _ _ c.loop-frame.invariant.1 c.in_default.ensures.none

pub returns-clause-lives : goal.returns-clause-lives
returns-clause-lives c = lives_all _ _ _ _ _ _ c.loop-frame.invariant.1 c.in_default.ensures.none
