use Rattle.picture_run.specs.Pictures.{titles_of}
use Rattle.picture_run.proofs.Adding.{steps_more}
use Rattle.picture_run.proofs.drawing.Drawing.draw_steps.Goals as goal

pub loop-place-preserved : goal.loop-place-preserved
loop-place-preserved c =
    steps_more c.args.scene.now.entries.now c.loop-place.place c.index-entries-place.result
    (titles_of c.args.lines.now.items) (titles_of c.loop-place.lines.items)
    (titles_of c.draw_entry.new.lines.items)
    c.loop-place-test.true c.index-entries-place.is c.loop-place.invariant c.in_ok-draw_entry.ensures
