use Rattle.report_io.proofs.Bytes.{appends_kept, appends_next, front_length}
use Rattle.report_io.proofs.streams.write_all.Goals as goal
use Rattle.report_io.proofs.streams.write_all.Goals.{in-Ok, in-Err}

pub loop-preserved : goal.loop-preserved
loop-preserved g c = elim c.match-write.branch [
  | in-Ok w ↦ (
    rw w.at-is (front_length _ _ _ c.loop.invariant.0 w.in-Ok.ensures.bound),
    rw w.at-is (appends_next _ _ _ _ _ _ c.loop.invariant.1 w.in-Ok.ensures.bytes),
  )
  | in-Err w ↦ (
    rw w.at-is c.loop.invariant.0,
    rw w.at-is (appends_kept _ _ _ _ c.loop.invariant.1 w.in-Err.ensures.bytes),
  )
]
